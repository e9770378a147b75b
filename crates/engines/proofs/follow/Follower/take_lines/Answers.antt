-- The piece was followed, line by line.
use Rattle.std.proofs.Common.{◌≡◌, ℕ, List, [], ◌∷◌, ◌++◌, length, refl, arith, sym, ap, subst, ◌∙◌, append-nil, append_assoc, rules}
use Rattle.std.specs.Prelude.{flat_map}
use Rattle.std.proofs.lemmas.Grind.{flat_map-append}
use Rattle.std.proofs.lemmas.Result.{err_from_is_err_and}
use Rattle.text_lines.specs.Putting.{Puts}
use Rattle.texts.specs.declared.follow.settings.FollowSettings.{FollowSettings}
use Rattle.texts.specs.Follow.{told_lines}
use Rattle.texts.specs.Happened.{HappenedAt}
use Rattle.engines.specs.Following.{IsTextOfFront}
use Rattle.engines.specs.Inside.Following.{HasFollowedBytes, IsFollowFault}
use Rattle.engines.proofs.FollowedLines.{front_of_two, fault_of_two}
use Rattle.text_lines.proofs.PutTexts.{puts-nothing, puts-then}
use Rattle.engines.proofs.follow.Follower.take_lines.Goals as goal

-- the lines of two lists were put
put_both : {T : Type 0} (after : T → List ℕ → T → Type 0) (settings : FollowSettings) (first middle last : T) (happened more : List HappenedAt) → Puts after first (flat_map (told_lines settings) happened) middle
    → Puts after middle (flat_map (told_lines settings) more) last → Puts after first (flat_map (told_lines settings) (happened ++ more)) last
put_both after settings first middle last happened more puts then =
    subst (λ (text : List ℕ). Puts after first text last) (sym (flat_map-append (told_lines settings) happened more)) (puts-then after puts then)

pub loop-rest-init : goal.loop-rest-init
loop-rest-init g c = λ rule width settings bytes told has. (
  [],
  [],
  refl,
  puts-nothing g.O.PutText.after c.args.out.now,
  subst (λ (bytes : List ℕ). HasFollowedBytes rule width settings bytes (told ++ []) c.args.self.now) (sym (append-nil bytes))
      (subst (λ (told : List HappenedAt). HasFollowedBytes rule width settings bytes told c.args.self.now) (sym (append-nil told)) has),
)

pub returns-in_err-take_line : goal.returns-in_err-take_line
returns-in_err-take_line g c = λ rule width settings bytes told has.
    let p = err_from_is_err_and c.from_residual.result c.from_residual.ensures.1 in
    let was = c.loop-rest.invariant rule width settings bytes told has in
    let line = c.split_behind_line.result.0.now in
    let below = c.split_behind_line.result.1.now in
    let took = c.in_err-take_line.ensures rule width settings (bytes ++ was.0) (told ++ was.1) was.4 in
    let are : c.args.piece.now ≡ was.0 ++ (line ++ below) = was.2 ∙ ap (λ (rest : List ℕ). was.0 ++ rest) c.split_behind_line.ensures.all in
    rw (p.1, p.2) (
      was.1 ++ took.0,
      put_both g.O.PutText.after settings c.args.out.now c.loop-rest.out c.take_line.new.out was.1 took.0 was.3 took.1,
      (
        subst (λ (piece : List ℕ). IsTextOfFront rule width settings c.in_err-take_line.field-0.0 (bytes ++ piece) (flat_map (told_lines settings) (told ++ (was.1 ++ took.0)))) (sym are)
            (front_of_two rule width settings c.in_err-take_line.field-0.0 bytes was.0 line below told was.1 took.0 took.2.0),
        subst (λ (piece : List ℕ). IsFollowFault width (bytes ++ piece) c.in_err-take_line.field-0.0) (sym are)
            (fault_of_two width bytes was.0 line below c.in_err-take_line.field-0.0 took.2.1),
      ),
    )

pub loop-rest-preserved : goal.loop-rest-preserved
loop-rest-preserved g c = λ rule width settings bytes told has.
    let was = c.loop-rest.invariant rule width settings bytes told has in
    let line = c.split_behind_line.result.0.now in
    let below = c.split_behind_line.result.1.now in
    let took = c.in_ok-take_line.ensures rule width settings (bytes ++ was.0) (told ++ was.1) was.4 in
    let are : c.args.piece.now ≡ was.0 ++ (line ++ below) = was.2 ∙ ap (λ (rest : List ℕ). was.0 ++ rest) c.split_behind_line.ensures.all in (
      was.0 ++ line,
      was.1 ++ took.0,
      are ∙ sym (append_assoc was.0 line below),
      put_both g.O.PutText.after settings c.args.out.now c.loop-rest.out c.take_line.new.out was.1 took.0 was.3 took.1,
      subst (λ (bytes : List ℕ). HasFollowedBytes rule width settings bytes (told ++ (was.1 ++ took.0)) c.take_line.new.self) (append_assoc bytes was.0 line)
          (subst (λ (told : List HappenedAt). HasFollowedBytes rule width settings ((bytes ++ was.0) ++ line) told c.take_line.new.self) (append_assoc told was.1 took.0) took.2),
    )

-- nothing is left
none_left : (rest : List ℕ) → length rest ≡ 0 → rest ≡ []
none_left [] e = refl
none_left (x ∷ xs) e = absurd (omega (arith, e))

pub returns : goal.returns
returns g c = λ rule width settings bytes told has.
    let was = c.loop-rest.invariant rule width settings bytes told has in
    let zero : length c.loop-rest.rest.now ≡ 0 = search rules in
    let none = none_left c.loop-rest.rest.now zero in
    let all : was.0 ≡ c.args.piece.now = sym (was.2 ∙ ap (λ (rest : List ℕ). was.0 ++ rest) none ∙ append-nil was.0) in
    (was.1, was.3, subst (λ (done : List ℕ). HasFollowedBytes rule width settings (bytes ++ done) (told ++ was.1) c.loop-rest.self) all was.4)
