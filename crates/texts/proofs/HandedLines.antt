-- What was handed in of the lines of a trace.
use Rattle.std.proofs.Common.{◌≡◌, ◌≢◌, ℕ, ◌<◌, ◌⊎◌, inl, inr, Bool, true, false, List, [], ◌∷◌, ◌++◌, length, refl, sym, ap, subst, ◌∙◌, arith, length-append}
use Rattle.std.specs.Prelude.{Option, Some, None, Result, Ok, Err, OnOk, MatchResult}
use Rattle.std.proofs.lemmas.Bool.{false≢true}
use Rattle.loss_rule.specs.declared.rule.LossRule.{LossRule}
use Rattle.receiver.specs.declared.setup.Setup.{Setup}
use Rattle.receiver.specs.declared.width.Width.{Width}
use Rattle.receiver.specs.Entries.{Entry}
use Rattle.text_lines.specs.declared.fault.LineFault.{LineFault}
use Rattle.text_lines.specs.declared.fault.TraceFault.{TraceFault}
use Rattle.text_lines.specs.Format.{IsRead, no_lines, skipped, taken, IsFirstFaultyLine}
use Rattle.text_lines.specs.Inside.LineFault.{IsLineFault}
use Rattle.text_lines.specs.Kinds.{IsLeastFault}
use Rattle.texts.specs.declared.trace.trace_line.TraceLine.{TraceLine}
use Rattle.texts.specs.declared.trace.trace_line.TraceLine.TheVariants as line
use Rattle.texts.specs.Trace.Line.{TraceShape, flow_line, sid_line, word_of, Carries}
use Rattle.texts.specs.Trace.Place.{Said, HasFaultAmong, trace_format}
use Rattle.texts.specs.Inside.SetupLines.{SetupSoFar, HasSetup, HasMore, SetsUp, AddsTo}
use Rattle.texts.specs.Inside.TraceInput.{TraceState, taking_format, WereTaken, HasTakenLines}
use Rattle.texts.proofs.FirstField.{one_word}
use Rattle.texts.proofs.SetupKept.{on_taken, no_entry}
use Rattle.texts.proofs.TraceLines.{IsLate, late_by_word, word_of_late}

-- what is read while it is handed in is read without that, and what is given before stays
pub read_alone : {State : Type 0} {before after : TraceState State} {lines : List (List ℕ)} → IsRead taking_format before lines after
    → (after.state ≡ before.state) × (after.rule ≡ before.rule) × (after.width ≡ before.width) × IsRead trace_format before.said lines after.said
read_alone no_lines = (refl, refl, refl, no_lines)
read_alone (skipped none read) = let more = read_alone read in (more.0, more.1, more.2, skipped none more.3)
read_alone (taken takes read) =
    let more = read_alone read in (more.0 ∙ takes.0, more.1 ∙ takes.1, more.2 ∙ takes.2, taken takes.3 more.3)

-- and a first faulty line is that without it
pub faulty_alone : {State : Type 0} (start : TraceState State) (lines : List (List ℕ)) (fault : TraceFault) → IsFirstFaultyLine taking_format start lines fault
    → IsFirstFaultyLine trace_format start.said lines fault
faulty_alone start lines fault is = record {
  above = is.above;
  line = is.line;
  below = is.below;
  are = is.are;
  state = is.state.said;
  read = (read_alone is.read).3;
  number = is.number;
  kind = is.kind;
}

-- what sets something up begins with one of two words
word_of_setup : (shape : TraceShape) (word : List ℕ) (words : List (List ℕ)) (line : TraceLine) → Carries shape (word ∷ words) line → SetsUp line
    → (word ≡ word_of flow_line) ⊎ (word ≡ word_of sid_line)
word_of_setup shape word words (line.Flow flow_record) carries sets =
    inl (one_word (word ∷ words) word (word_of flow_line) words carries.after refl carries.are)
word_of_setup shape word words (line.Sid row) carries sets = inr (one_word (word ∷ words) word (word_of sid_line) words carries.after refl carries.are)
word_of_setup shape word words (line.Input channel input) carries sets = absurd sets
word_of_setup shape word words (line.Gap decision) carries sets = absurd sets

module _ {P : Type 0} where
  none_begun : (taker : Option P) → ¬ (taker ≢ None) → taker ≡ None
  none_begun None begun = refl
  none_begun (Some taker) begun = absurd (begun (λ none. absurd cc))

  -- so it comes before anything that is handed in
  pub not_begun : (shape : TraceShape) (word : List ℕ) (words : List (List ℕ)) (line : TraceLine) (taker : Option P) (late : Bool)
      → Carries shape (word ∷ words) line → (((word ≡ word_of flow_line) ⊎ (word ≡ word_of sid_line)) × (taker ≢ None) → late ≡ true) → late ≡ false
      → SetsUp line → taker ≡ None
  not_begun shape word words line taker late carries found not sets =
      none_begun taker (λ some. false≢true (sym not ∙ found (word_of_setup shape word words line carries sets, some)))

-- a setup so far gives the setup that lines say
pub setup_of : (said : Said) (so_far : SetupSoFar) (setup : Setup) (mailbox : ℕ) → HasSetup said so_far
    → setup ≡ record so_far.setup { mailbox = mailbox } → (setup.flows.items ≡ said.flows) × (setup.sids.items ≡ said.sids) × (setup.mailbox ≡ mailbox)
setup_of said so_far setup mailbox has is = (
  ap (λ (s : Setup). s.flows.items) is ∙ has.flows,
  ap (λ (s : Setup). s.sids.items) is ∙ has.sids,
  ap (λ (s : Setup). s.mailbox) is,
)

module _ {State P : Type 0} (starts : State → Type 0) (has_taken : State → LossRule → Width → Setup → List Entry → P → Type 0) where
  -- where nothing was handed in it doesn't matter to which setup
  none_taken : (state : State) (rule : LossRule) (width : Width) (setup other : Setup) (taker : Option P) (entries : List Entry) → taker ≡ None
      → WereTaken starts has_taken state rule width setup taker entries → WereTaken starts has_taken state rule width other taker entries
  none_taken state rule width setup other None entries none has = has
  none_taken state rule width setup other (Some taker) entries none has = absurd cc

  -- what is set up before anything came in is handed in
  pub setup_handed : (state : TraceState State) (line given : TraceLine) (width : Width) (rule rule' : LossRule) (before after : SetupSoFar)
      (taker taker' : Option P) (result : Result (Unit {0}) LineFault) → line ≡ given → SetsUp given → taker ≡ None → rule' ≡ rule
      → after.setup.mailbox ≡ before.setup.mailbox → taker' ≡ taker → AddsTo HasSetup before given result after
      → (said : Said) → HasTakenLines starts has_taken (record state { said = said }) width rule before taker
      → MatchResult result (λ _. HasMore (λ more. HasTakenLines starts has_taken (record state { said = more }) width rule' after taker') said line)
      (IsLineFault (IsLeastFault (HasFaultAmong said line)))
  setup_handed state line given width rule rule' before after taker taker' result is sets none rule_is mailbox same adds =
      subst (λ (line : TraceLine). (said : Said) → HasTakenLines starts has_taken (record state { said = said }) width rule before taker
      → MatchResult result (λ _. HasMore (λ more. HasTakenLines starts has_taken (record state { said = more }) width rule' after taker') said line)
      (IsLineFault (IsLeastFault (HasFaultAmong said line)))) (sym is)
      (λ said has. on_taken _ result
      (λ more. record {
        faultless = more.faultless;
        has = record {
          width_is = has.width_is;
          rule_is = rule_is ∙ has.rule_is;
          setup = more.has;
          mailbox = mailbox ∙ has.mailbox;
          taken =
              subst (λ (entries : List Entry). WereTaken starts has_taken state.state state.rule state.width after.setup taker' entries) (sym (no_entry said given sets))
              (subst (λ (taker : Option P). WereTaken starts has_taken state.state state.rule state.width after.setup taker said.entries) (sym same)
              (none_taken state.state state.rule state.width before.setup after.setup taker said.entries none has.taken));
        };
      })
      (adds said has.setup))

  -- something takes the entries exactly if there are some
  taken_some : (state : State) (rule : LossRule) (width : Width) (setup : Setup) (taker : Option P) (entries : List Entry)
      → WereTaken starts has_taken state rule width setup taker entries → taker ≢ None → 0 < length entries
  taken_some state rule width setup None entries has some = absurd (some refl)
  taken_some state rule width setup (Some taker) entries has some = has.0

  some_taken : (state : State) (rule : LossRule) (width : Width) (setup : Setup) (taker : Option P) (entries : List Entry)
      → WereTaken starts has_taken state rule width setup taker entries → 0 < length entries → taker ≢ None
  some_taken state rule width setup None entries has some none = omega (arith, ap length has.1, some)
  some_taken state rule width setup (Some taker) entries has some none = absurd cc

  module _ (state : TraceState State) (width : Width) (rule : LossRule) (so_far : SetupSoFar) (taker : Option P)
      (has : HasTakenLines starts has_taken state width rule so_far taker) where
    -- something takes the entries, so a line that sets something up is late
    pub late_after_input : (word : List ℕ) (words : List (List ℕ)) → ((word ≡ word_of flow_line) ⊎ (word ≡ word_of sid_line)) × (taker ≢ None)
        → IsLate state.said (word ∷ words)
    late_after_input word words found =
        late_by_word state.said word words found.0 (taken_some state.state state.rule state.width so_far.setup taker state.said.entries has.taken found.1)

    -- and a line that is not found late is not late
    pub not_late : (word : List ℕ) (words : List (List ℕ)) (late : Bool)
        → (((word ≡ word_of flow_line) ⊎ (word ≡ word_of sid_line)) × (taker ≢ None) → late ≡ true) → late ≡ false → IsLate state.said (word ∷ words) → ⊥
    not_late word words late found not is =
        false≢true (sym not
        ∙ found (word_of_late word words is.0, some_taken state.state state.rule state.width so_far.setup taker state.said.entries has.taken is.1))

    -- what was handed in once an entry more was
    pub entry_handed : (width' : Width) (rule' : LossRule) (after : SetupSoFar) (taker' : Option P) (next : P) (entry : Entry) → width' ≡ width → rule' ≡ rule
        → after ≡ so_far → taker' ≡ Some next
        → has_taken state.state state.rule state.width so_far.setup (state.said.entries ++ entry ∷ []) next
        → HasTakenLines starts has_taken (record state { said = record state.said { entries = state.said.entries ++ entry ∷ [] } }) width' rule' after taker'
    entry_handed width' rule' after taker' next entry width_same rule_same same is took = record {
      width_is = width_same ∙ has.width_is;
      rule_is = rule_same ∙ has.rule_is;
      setup = record {
        shape = ap (λ (s : SetupSoFar). s.shape) same ∙ has.setup.shape;
        flows = ap (λ (s : SetupSoFar). s.setup.flows.items) same ∙ has.setup.flows;
        sids = ap (λ (s : SetupSoFar). s.setup.sids.items) same ∙ has.setup.sids;
      };
      mailbox = ap (λ (s : SetupSoFar). s.setup.mailbox) same ∙ has.mailbox;
      taken =
          subst (λ (s : SetupSoFar). WereTaken starts has_taken state.state state.rule state.width s.setup taker' (state.said.entries ++ entry ∷ [])) (sym same)
          (subst (λ (taker : Option P). WereTaken starts has_taken state.state state.rule state.width so_far.setup taker (state.said.entries ++ entry ∷ [])) (sym is)
          (omega (arith, length-append state.said.entries (entry ∷ [])), took));
    }

-- a line that is taken is taken with what is given before
pub taken_with : {State : Type 0} (before : TraceState State) (Took : Said → Type 0) (Has : TraceState State → Type 0) (result : Result (Unit {0}) LineFault)
    → OnOk result ((next : Said) × Took next × Has (record before { said = next }))
    → OnOk result ((next : TraceState State) × ((next.state ≡ before.state) × (next.rule ≡ before.rule) × (next.width ≡ before.width) × Took next.said) × Has next)
taken_with before Took Has (Ok none) took = (record before { said = took.0 }, (refl, refl, refl, took.1), took.2)
taken_with before Took Has (Err fault) took = tt
