-- A line of a map says one thing by itself, or has one fault by itself.
use Rattle.std.proofs.Common.{◌≡◌, ℕ, Option, Some, None, List, [], ◌∷◌, length, get_or, refl, sym, ap, ◌∙◌, subst, arith}
use Rattle.std.specs.Prelude.{codes}
use Rattle.text_lines.specs.Number.{IsNumber}
use Rattle.capture_map.specs.declared.map.MapFlow.{MapFlow}
use Rattle.capture_map.specs.declared.map.MapSid.{MapSid}
use Rattle.capture_map.specs.declared.map.MapChannel.{MapChannel}
use Rattle.capture_map.specs.declared.map_line.MapLine.{MapLine}
use Rattle.capture_map.specs.declared.map_line.MapLine.TheVariants.{Flow, Channel, Sid}
use Rattle.capture_map.specs.declared.map_fault.MapKind.{MapKind}
use Rattle.capture_map.specs.declared.map_fault.MapKind.TheVariants.{UnknownLine, FieldCount, BadNumber, UnknownChannel, UnknownFlow, TooManyFlows, SameFlow, SameChannel, SameSid}
use Rattle.capture_map.specs.Line.{MapForm, flow_form, channel_form, sid_form, word_of, count_after, IsFirst, SaysFlow, SaysChannel, SaysSid, Says, IsUnknown, HasWrongCount, HasFaultByItself}

-- a field is one number
one_number : (field : List ℕ) (most a b : ℕ) → IsNumber field most a → IsNumber field most b → a ≡ b
one_number field most a b p q = sym p.value ∙ q.value

-- and `auto` is none
not_auto : (field : List ℕ) (first : ℕ) → field ≡ codes "auto" → IsNumber field 8191 first → ⊥
not_auto field first is number =
    let digits = (subst (λ f. IsNumber f 8191 first) is number).digits in
    omega (arith, digits.1.0)

one_first : (field : List ℕ) (a b : Option ℕ) → IsFirst field a → IsFirst field b → a ≡ b
one_first field None None p q = refl
one_first field None (Some b) p q = absurd (not_auto field b p q)
one_first field (Some a) None p q = absurd (not_auto field a q p)
one_first field (Some a) (Some b) p q = ap Some (one_number field 8191 a b p q)

-- a flow by its fields
flow_with : ℕ → Option ℕ → ℕ → ℕ → MapFlow
flow_with sfid first window clusters = record { sfid = sfid; first = first; window = window; clusters = clusters }

one_flow : (a b c d : List ℕ) (p q : MapFlow) → SaysFlow a b c d p → SaysFlow a b c d q → p ≡ q
unfolding flow_with
one_flow a b c d p q x y =
    ap (λ t. flow_with t p.first p.window p.clusters) (one_number a 4294967295 p.sfid q.sfid x.0 y.0)
    ∙ ap (λ t. flow_with q.sfid t p.window p.clusters) (one_first b p.first q.first x.1 y.1)
    ∙ ap (λ t. flow_with q.sfid q.first t p.clusters) (one_number c 4096 p.window q.window x.2.0 y.2.0)
    ∙ ap (λ t. flow_with q.sfid q.first q.window t) (one_number d 8 p.clusters q.clusters x.3.0 y.3.0)

-- a channel
channel_with : ℕ → ℕ → MapChannel
channel_with channel id = record { channel = channel; id = id }

one_channel : (a b : List ℕ) (p q : MapChannel) → SaysChannel a b p → SaysChannel a b q → p ≡ q
unfolding channel_with
one_channel a b p q x y =
    ap (λ t. channel_with t p.id) (one_number a 15 p.channel q.channel x.0 y.0) ∙ ap (λ t. channel_with q.channel t) (one_number b 4294967295 p.id q.id x.1 y.1)

-- a service identifier of a channel
sid_with : ℕ → ℕ → ℕ → MapSid
sid_with channel sid flow = record { channel = channel; sid = sid; flow = flow }

one_sid : (a b c : List ℕ) (p q : MapSid) → SaysSid a b c p → SaysSid a b c q → p ≡ q
unfolding sid_with
one_sid a b c p q x y =
    ap (λ t. sid_with t p.sid p.flow) (one_number a 15 p.channel q.channel x.0 y.0) ∙ ap (λ t. sid_with q.channel t p.flow) (one_number b 16383 p.sid q.sid x.1 y.1)
    ∙ ap (λ t. sid_with q.channel q.sid t) (one_number c 16383 p.flow q.flow x.2 y.2)

-- a line says one thing
pub one_line : (fields : List (List ℕ)) (line other : MapLine) → Says line fields → Says other fields → line ≡ other
one_line (word ∷ a ∷ b ∷ c ∷ d ∷ []) (Flow p) (Flow q) x y = ap Flow (one_flow a b c d p q x.1 y.1)
one_line (word ∷ a ∷ b ∷ []) (Channel p) (Channel q) x y = ap Channel (one_channel a b p q x.1 y.1)
one_line (word ∷ a ∷ b ∷ c ∷ []) (Sid p) (Sid q) x y = ap Sid (one_sid a b c p q x.1 y.1)
one_line (word ∷ a ∷ b ∷ c ∷ d ∷ []) (Flow p) (Channel q) x y = absurd y
one_line (word ∷ a ∷ b ∷ c ∷ d ∷ []) (Flow p) (Sid q) x y = absurd y
one_line (word ∷ a ∷ b ∷ []) (Channel p) (Flow q) x y = absurd y
one_line (word ∷ a ∷ b ∷ []) (Channel p) (Sid q) x y = absurd y
one_line (word ∷ a ∷ b ∷ c ∷ []) (Sid p) (Flow q) x y = absurd y
one_line (word ∷ a ∷ b ∷ c ∷ []) (Sid p) (Channel q) x y = absurd y
one_line _ (Flow p) _ x y = absurd x
one_line _ (Channel p) _ x y = absurd x
one_line _ (Sid p) _ x y = absurd x

-- fields of a form, as many as it has
record HasForm (fields : List (List ℕ)) : Type 0 where
  form : MapForm
  after : List (List ℕ)
  are : fields ≡ word_of form ∷ after
  count : length after ≡ count_after form

form_of : (fields : List (List ℕ)) (line : MapLine) → Says line fields → HasForm fields
form_of (word ∷ a ∷ b ∷ c ∷ d ∷ []) (Flow p) x = record { form = flow_form; after = a ∷ b ∷ c ∷ d ∷ []; are = ap (λ w. w ∷ a ∷ b ∷ c ∷ d ∷ []) x.0; count = refl }
form_of (word ∷ a ∷ b ∷ []) (Channel p) x = record { form = channel_form; after = a ∷ b ∷ []; are = ap (λ w. w ∷ a ∷ b ∷ []) x.0; count = refl }
form_of (word ∷ a ∷ b ∷ c ∷ []) (Sid p) x = record { form = sid_form; after = a ∷ b ∷ c ∷ []; are = ap (λ w. w ∷ a ∷ b ∷ c ∷ []) x.0; count = refl }
form_of _ (Flow p) x = absurd x
form_of _ (Channel p) x = absurd x
form_of _ (Sid p) x = absurd x

-- a word begins one form
one_form : (form other : MapForm) → word_of form ≡ word_of other → form ≡ other
one_form flow_form flow_form same = refl
one_form channel_form channel_form same = refl
one_form sid_form sid_form same = refl
one_form _ _ same = absurd (omega (arith, ap (λ word. get_or word 0 0) same))

-- fields have one first word, and the same after it
one_word : (fields : List (List ℕ)) (word other : List ℕ) (more others : List (List ℕ)) → fields ≡ word ∷ more → fields ≡ other ∷ others → word ≡ other
one_word fields word other more others a b = let same : word ∷ more ≡ other ∷ others = sym a ∙ b in cc same

same_after : (fields : List (List ℕ)) (word other : List ℕ) (more others : List (List ℕ)) → fields ≡ word ∷ more → fields ≡ other ∷ others → more ≡ others
same_after fields word other more others a b = let same : word ∷ more ≡ other ∷ others = sym a ∙ b in cc same

-- fields of a form are not unknown
not_unknown : (fields : List (List ℕ)) (form : MapForm) (after : List (List ℕ)) → fields ≡ word_of form ∷ after → IsUnknown fields → ⊥
not_unknown fields form after are unknown = unknown.3 form (one_word fields unknown.0 (word_of form) unknown.1 after unknown.2 are)

-- as many as it has are not too many or too few
not_miscounted : (fields : List (List ℕ)) (form : MapForm) (after : List (List ℕ)) → fields ≡ word_of form ∷ after → length after ≡ count_after form → HasWrongCount fields → ⊥
not_miscounted fields form after are count wrong =
    let same = one_form wrong.form form (one_word fields (word_of wrong.form) (word_of form) wrong.after after wrong.are are) in
    wrong.wrong (ap length (same_after fields (word_of wrong.form) (word_of form) wrong.after after wrong.are are) ∙ count ∙ ap count_after (sym same))

-- what says something has no fault by itself
pub says_no_fault : (fields : List (List ℕ)) (line : MapLine) (kind : MapKind) → Says line fields → HasFaultByItself fields kind → ⊥
says_no_fault fields line UnknownLine says fault = let f = form_of fields line says in not_unknown fields f.form f.after f.are fault
says_no_fault fields line FieldCount says fault = let f = form_of fields line says in not_miscounted fields f.form f.after f.are f.count fault
says_no_fault fields line BadNumber says fault = fault.nothing line says
says_no_fault fields line UnknownChannel says fault = fault
says_no_fault fields line UnknownFlow says fault = fault
says_no_fault fields line TooManyFlows says fault = fault
says_no_fault fields line SameFlow says fault = fault
says_no_fault fields line SameChannel says fault = fault
says_no_fault fields line SameSid says fault = fault

-- a line has one fault by itself
pub one_fault : (fields : List (List ℕ)) (kind other : MapKind) → HasFaultByItself fields kind → HasFaultByItself fields other → kind ≡ other
one_fault fields UnknownLine UnknownLine a b = refl
one_fault fields FieldCount FieldCount a b = refl
one_fault fields BadNumber BadNumber a b = refl
one_fault fields UnknownLine FieldCount a b = absurd (not_unknown fields b.form b.after b.are a)
one_fault fields UnknownLine BadNumber a b = absurd (not_unknown fields b.form b.after b.are a)
one_fault fields FieldCount UnknownLine a b = absurd (not_unknown fields a.form a.after a.are b)
one_fault fields BadNumber UnknownLine a b = absurd (not_unknown fields a.form a.after a.are b)
one_fault fields FieldCount BadNumber a b = absurd (not_miscounted fields b.form b.after b.are b.count a)
one_fault fields BadNumber FieldCount a b = absurd (not_miscounted fields a.form a.after a.are a.count b)
one_fault fields UnknownLine _ a b = absurd b
one_fault fields FieldCount _ a b = absurd b
one_fault fields BadNumber _ a b = absurd b
one_fault fields _ _ a b = absurd a

-- and no fields say nothing and have none
pub none_says : (line : MapLine) → Says line [] → ⊥
none_says (Flow p) x = x
none_says (Channel p) x = x
none_says (Sid p) x = x

pub none_has : (kind : MapKind) → HasFaultByItself [] kind → ⊥
none_has UnknownLine a = let no : [] ≡ a.0 ∷ a.1 = a.2 in cc no
none_has FieldCount a = let no : [] ≡ word_of a.form ∷ a.after = a.are in cc no
none_has BadNumber a = let no : [] ≡ word_of a.form ∷ a.after = a.are in cc no
none_has UnknownChannel a = a
none_has UnknownFlow a = a
none_has TooManyFlows a = a
none_has SameFlow a = a
none_has SameChannel a = a
none_has SameSid a = a
