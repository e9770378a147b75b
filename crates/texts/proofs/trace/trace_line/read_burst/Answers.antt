use Rattle.std.proofs.Common.{◌≡◌, ◌≢◌, ℕ, List, ◌∷◌, [], length, inl, inr, refl, sym, ap, subst, ◌∙◌, arith, Option, Some, None, Err}
use Rattle.std.specs.Prelude.{MatchOption}
use Rattle.std.specs.Option.{ok_or}
use Rattle.std.proofs.lemmas.Result.{err_from_is_err_and}
use Rattle.text_lines.specs.Field.{SpellsBytes, IsHex}
use Rattle.text_lines.specs.Lines.{words_of}
use Rattle.text_lines.specs.declared.fault.LineFault.{LineFault}
use Rattle.text_lines.specs.declared.fault.LineFault.TheVariants as line_fault
use Rattle.text_lines.specs.declared.fault.TraceKind.TheVariants.{FieldCount, NotHex}
use Rattle.text_lines.specs.Inside.LineFault.{IsLineFault}
use Rattle.texts.specs.Trace.Line.{TraceShape, shape_of, word_of, a_number, a_check, burst_line}
use Rattle.texts.specs.Inside.TraceLine.{IsLeastFaultByItself}
use Rattle.texts.proofs.TraceLineFaults.{miscounted, number_fault, check_fault, hex_fault, IsBadField-hex}
use Rattle.texts.proofs.trace.trace_line.read_burst.Goals as goal

-- behind three words there are no four where there isn't one
none_behind : (shape : TraceShape) (words behind : List (List ℕ)) (channel number check : List ℕ) (fault : LineFault) → words ≡ channel ∷ number ∷ check ∷ behind
    → IsLineFault (λ kind. (kind ≡ FieldCount) × (length behind ≢ 1)) fault → IsLineFault (IsLeastFaultByItself shape (word_of burst_line ∷ words)) fault
none_behind shape words behind channel number check (line_fault.Kind kind) are wrong =
    subst (IsLeastFaultByItself shape (word_of burst_line ∷ words)) (sym wrong.0)
    (miscounted shape burst_line words tt (λ four. wrong.1 (omega (arith, four, ap length are))))
none_behind shape words behind channel number check line_fault.OutOfMemory are wrong = tt

-- where no bytes were spelled, the field is not hexadecimal
spelled_none : {B : Type 0} (items : B → List ℕ) (field : List ℕ) (spelled : Option B) → spelled ≡ None
    → MatchOption spelled (¬ IsHex field) (λ bytes. SpellsBytes field (items bytes)) → ¬ IsHex field
spelled_none items field None is other = other
spelled_none items field (Some bytes) is spells = cc

spelled_some : {B : Type 0} (items : B → List ℕ) (field : List ℕ) (spelled : Option B) (bytes : B) → spelled ≡ Some bytes
    → MatchOption spelled (¬ IsHex field) (λ bytes. SpellsBytes field (items bytes)) → SpellsBytes field (items bytes)
spelled_some items field None bytes is other = cc
spelled_some items field (Some found) bytes is spells =
    let same : found ≡ bytes = cc in
    subst (λ bytes. SpellsBytes field (items bytes)) same spells

-- then that is the fault
not_hex : {B : Type 0} (spelled : Option B) (fault : LineFault) → spelled ≡ None → Err fault ≡ ok_or spelled (line_fault.Kind NotHex) → fault ≡ line_fault.Kind NotHex
not_hex None fault is value = cc
not_hex (Some bytes) fault is value = cc

pub returns-in_default-clause-fault : goal.returns-in_default-clause-fault
returns-in_default-clause-fault c = λ ring.
    let few : length (words_of c.args.rest.now) ≢ 4 = λ four. absurd (omega (arith, c.in_default.ensures, four)) in
    miscounted (shape_of c.args.width ring) burst_line (words_of c.args.rest.now) tt few

pub returns-in_err-spelled-clause-fault : goal.returns-in_err-spelled-clause-fault
returns-in_err-spelled-clause-fault c = λ ring.
    let p = err_from_is_err_and c.from_residual.result c.from_residual.ensures.1 in
    rw (p.1, p.2) (none_behind (shape_of c.args.width ring) (words_of c.args.rest.now) (words_of c.in-Some.behind.now) c.in-Some.channel.now c.in-Some.number.now c.in-Some.check.now
    c.in_err-spelled.field-0.0 c.in-Some.ensures c.in_err-spelled.ensures.fault)

pub returns-in_err-channel-clause-fault : goal.returns-in_err-channel-clause-fault
returns-in_err-channel-clause-fault c = λ ring.
    let one = c.in_ok-spelled.ensures.spelled in
    let words = c.in-Some.ensures ∙ ap (λ behind. c.in-Some.channel.now ∷ c.in-Some.number.now ∷ c.in-Some.check.now ∷ behind) one.1 in
    let p = err_from_is_err_and c.from_residual-in_err-channel.result c.from_residual-in_err-channel.ensures.1 in
    rw (p.1, p.2) (number_fault (shape_of c.args.width ring) burst_line _ _ _ words refl c.in_err-channel.ensures.kind
    (inl (refl, (c.in_err-channel.ensures.bad ring))))

pub returns-in_err-grant-clause-fault : goal.returns-in_err-grant-clause-fault
returns-in_err-grant-clause-fault c = λ ring.
    let one = c.in_ok-spelled.ensures.spelled in
    let words = c.in-Some.ensures ∙ ap (λ behind. c.in-Some.channel.now ∷ c.in-Some.number.now ∷ c.in-Some.check.now ∷ behind) one.1 in
    let p = err_from_is_err_and c.from_residual-in_err-grant.result c.from_residual-in_err-grant.ensures.1 in
    rw (p.1, p.2) (number_fault (shape_of c.args.width ring) burst_line _ _ _ words refl c.in_err-grant.ensures.kind
    (inr (a_number _, (c.in_ok-channel.ensures.number ring), inl (refl, c.in_err-grant.ensures.bad))))

pub returns-in_err-hcs_ok-clause-fault : goal.returns-in_err-hcs_ok-clause-fault
returns-in_err-hcs_ok-clause-fault c = λ ring.
    let one = c.in_ok-spelled.ensures.spelled in
    let words = c.in-Some.ensures ∙ ap (λ behind. c.in-Some.channel.now ∷ c.in-Some.number.now ∷ c.in-Some.check.now ∷ behind) one.1 in
    let p = err_from_is_err_and c.from_residual-in_err-hcs_ok.result c.from_residual-in_err-hcs_ok.ensures.1 in
    rw (p.1, p.2) (check_fault (shape_of c.args.width ring) burst_line _ _ _ words refl c.in_err-hcs_ok.ensures.kind
    (inr (a_number _, (c.in_ok-channel.ensures.number ring), inr (a_number _, c.in_ok-grant.ensures.number, inl (refl, c.in_err-hcs_ok.ensures.bad)))))

pub returns-in_err-bytes-clause-fault : goal.returns-in_err-bytes-clause-fault
returns-in_err-bytes-clause-fault c = λ ring.
    let one = c.in_ok-spelled.ensures.spelled in
    let words = c.in-Some.ensures ∙ ap (λ behind. c.in-Some.channel.now ∷ c.in-Some.number.now ∷ c.in-Some.check.now ∷ behind) one.1 in
    let none = spelled_none (λ bytes. bytes.items) one.0 c.in_ok-spelled.spelled c.in_err-bytes.ensures.ok_part one.2 in
    let fault = not_hex c.in_ok-spelled.spelled c.in_err-bytes.field-0.0 c.in_err-bytes.ensures.ok_part c.in_err-bytes.ensures.value in
    let p = err_from_is_err_and c.from_residual-in_err-bytes.result c.from_residual-in_err-bytes.ensures.1 in
    rw (p.1, p.2, fault) (hex_fault (shape_of c.args.width ring) burst_line _ _ one.0 (line_fault.Kind NotHex) words refl
    (λ is_none. inr (
      a_number _,
      (c.in_ok-channel.ensures.number ring),
      inr (
        a_number _,
        c.in_ok-grant.ensures.number,
        inr (a_check _, c.in_ok-hcs_ok.ensures.check, inl (refl, IsBadField-hex _ is_none)),
      ),
    ))
    (refl, none))

pub returns-clause-carried : goal.returns-clause-carried
returns-clause-carried c = λ ring.
    let one = c.in_ok-spelled.ensures.spelled in
    let words = c.in-Some.ensures ∙ ap (λ behind. c.in-Some.channel.now ∷ c.in-Some.number.now ∷ c.in-Some.check.now ∷ behind) one.1 in
    let spells = spelled_some (λ bytes. bytes.items) one.0 c.in_ok-spelled.spelled c.in_ok-bytes.bytes c.in_ok-bytes.ensures.ok_part one.2 in
    record {
      after = c.in-Some.channel.now ∷ c.in-Some.number.now ∷ c.in-Some.check.now ∷ one.0 ∷ [];
      are = ap (λ (after : List (List ℕ)). word_of burst_line ∷ after) words;
      values = ((c.in_ok-channel.ensures.number ring), (c.in_ok-grant.ensures.number, (c.in_ok-hcs_ok.ensures.check, (subst (λ (bytes : List ℕ). SpellsBytes one.0 bytes) (sym c.from.ensures) spells, tt))));
      ring_is = tt;
    }
