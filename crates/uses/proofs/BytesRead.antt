-- A source that reads its inputs from bytes: one input more, and its end.
use Rattle.std.proofs.Common.{◌≡◌, ℕ, false, true≢false, is_some, refl, Option, Some, None, Ok, Err, List, [], ◌∷◌, ◌++◌, IfSome, IfNone, OnOk, subst, sym, ap, ◌∙◌, append-nil}
use Rattle.std.proofs.KnownBytes.{Consumes-trans}
use Rattle.std.proofs.lemmas.List.Concat.{flat_map-append}
use Rattle.std.specs.Io.KnownBytes.{Consumes, Keeps, IsAtEnd}
use Rattle.lane.specs.declared.input.Input.{Input}
use Rattle.workers.specs.declared.channel_input.ChannelInput.{ChannelInput}
use Rattle.uses.specs.declared.byte_source.ByteSource.{ByteSource}
use Rattle.uses.specs.declared.byte_source.InputFault.{InputFault}
use Rattle.uses.specs.InputForms.{form_of, forms_of, kind_of, behind_kind}
use Rattle.uses.specs.ByteSource.{HasRead}

pub none-of : {A : Type 0} (o : Option A) → false ≡ is_some o → o ≡ None
none-of None same = refl
none-of (Some x) same = absurd (true≢false (sym same))

-- what was read after nothing had been read
pub kept-consumes : (a b c : Option (List ℕ)) (bytes : List ℕ) → Keeps a b → Consumes b c bytes → Consumes a c bytes
kept-consumes None b c bytes kept read = tt
kept-consumes (Some x) None c bytes kept read = absurd kept
kept-consumes (Some x) (Some y) None bytes kept read = absurd read
kept-consumes (Some x) (Some y) (Some z) bytes kept read = sym kept ∙ read

pub kept-end : (a b c : Option (List ℕ)) → Keeps a b → Consumes b c [] → IsAtEnd c → IsAtEnd a
kept-end None b c kept read end = tt
kept-end (Some x) None c kept read end = absurd kept
kept-end (Some x) (Some y) None kept read end = absurd read
kept-end (Some x) (Some y) (Some z) kept read end = sym kept ∙ read ∙ end

-- an input behind its kind
pub kind-and-rest : (a b c : Option (List ℕ)) (input : Input) (kind : ℕ) → Consumes a b (kind ∷ []) → kind_of input ≡ kind → Consumes b c (behind_kind input)
    → Consumes a c (kind_of input ∷ behind_kind input)
kind-and-rest a b c input kind first is rest =
    subst (λ (k : ℕ). Consumes a c (k ∷ behind_kind input)) (sym is) (Consumes-trans a b c (kind ∷ []) (behind_kind input) first rest)

-- and that behind its channel
pub channel-and-rest : (a b c : Option (List ℕ)) (channel : ℕ) (input : Input) → Consumes a b (channel ∷ []) → Consumes b c (kind_of input ∷ behind_kind input)
    → Consumes a c (form_of (record { channel = channel; input = input }))
channel-and-rest a b c channel input first rest = Consumes-trans a b c (channel ∷ []) (kind_of input ∷ behind_kind input) first rest

forms-more : (inputs : List ChannelInput) (input : ChannelInput) → forms_of (inputs ++ input ∷ []) ≡ forms_of inputs ++ form_of input
forms-more inputs input = flat_map-append form_of inputs (input ∷ []) ∙ ap (λ rest. forms_of inputs ++ rest) (append-nil (form_of input))

-- bytes of which these were read began with them
begun-by : (a b : Option (List ℕ)) (bytes : List ℕ) → Consumes a b bytes → IfSome a (λ all. (rest : List ℕ) × (all ≡ bytes ++ rest))
begun-by None b bytes read = tt
begun-by (Some all) None bytes read = absurd read
begun-by (Some all) (Some rest) bytes read = (rest, read)

-- bytes that were read to the end are all
all-read : (a b : Option (List ℕ)) (bytes : List ℕ) → Consumes a b bytes → IsAtEnd b → IfSome a (λ all. all ≡ bytes)
all-read None b bytes read end = tt
all-read (Some all) None bytes read end = absurd read
all-read (Some all) (Some rest) bytes read end = read ∙ ap (λ r. bytes ++ r) end ∙ append-nil bytes

module _ {R : Type 0} (remaining : R → Option (List ℕ)) (start old new : ByteSource R) (inputs : List ChannelInput) (has : HasRead remaining start inputs old) where
  module _ (goes_on : old.ended ≡ None) where
    has-read : Consumes (remaining start.reader) (remaining old.reader) (forms_of inputs)
    has-read = subst (λ (ended : Option _). IfNone ended (Consumes (remaining start.reader) (remaining old.reader) (forms_of inputs))) goes_on has.read

    -- one input more
    pub reads-more : (input : ChannelInput) → new.ended ≡ None → Consumes (remaining old.reader) (remaining new.reader) (form_of input)
        → HasRead remaining start (inputs ++ input ∷ []) new
    reads-more input still read =
        let all : Consumes (remaining start.reader) (remaining new.reader) (forms_of (inputs ++ input ∷ [])) =
        subst (λ (bytes : List ℕ). Consumes (remaining start.reader) (remaining new.reader) bytes) (sym (forms-more inputs input))
        (Consumes-trans (remaining start.reader) (remaining old.reader) (remaining new.reader) (forms_of inputs) (form_of input) has-read read) in
        record {
          begun = begun-by (remaining start.reader) (remaining new.reader) (forms_of (inputs ++ input ∷ [])) all;
          read = subst (λ (ended : Option _). IfNone ended (Consumes (remaining start.reader) (remaining new.reader) (forms_of (inputs ++ input ∷ [])))) (sym still) all;
          whole = subst (λ (ended : Option _). IfSome ended (λ end. OnOk end (IfSome (remaining start.reader) (λ bytes. bytes ≡ forms_of (inputs ++ input ∷ []))))) (sym still) tt;
        }

    -- the end of its bytes
    pub reads-end : new.ended ≡ Some (Ok tt) → IsAtEnd (remaining old.reader) → HasRead remaining start inputs new
    reads-end ended end = record {
      begun = has.begun;
      read = subst (λ (e : Option _). IfNone e (Consumes (remaining start.reader) (remaining new.reader) (forms_of inputs))) (sym ended) tt;
      whole = subst (λ (e : Option _). IfSome e (λ end. OnOk end (IfSome (remaining start.reader) (λ bytes. bytes ≡ forms_of inputs)))) (sym ended)
          (all-read (remaining start.reader) (remaining old.reader) (forms_of inputs) has-read end);
    }

  -- a fault
  pub reads-fault : (fault : InputFault) → new.ended ≡ Some (Err fault) → HasRead remaining start inputs new
  reads-fault fault ended = record {
    begun = has.begun;
    read = subst (λ (e : Option _). IfNone e (Consumes (remaining start.reader) (remaining new.reader) (forms_of inputs))) (sym ended) tt;
    whole = subst (λ (e : Option _). IfSome e (λ end. OnOk end (IfSome (remaining start.reader) (λ bytes. bytes ≡ forms_of inputs)))) (sym ended) tt;
  }
