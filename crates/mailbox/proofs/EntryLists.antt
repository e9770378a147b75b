-- One entry more.
use Rattle.std.specs.Prelude.{◌≡◌, ◌+◌, true, false, List, [], ◌∷◌, ◌++◌, refl}
use Rattle.std.proofs.Common.{ap, arith}
use Rattle.mailbox.specs.Entries.{items_of, has_end, ends_of}
use Rattle.mailbox.specs.Inside.Ends.{ends_once}
use Rattle.mailbox.specs.declared.entry.Entry.{Entry}
use Rattle.mailbox.specs.declared.entry.Entry.TheVariants.{Item, End}

pub items_of-append : {T : Type 0} (xs ys : List (Entry T)) → items_of (xs ++ ys) ≡ items_of xs ++ items_of ys
items_of-append [] ys = refl
items_of-append (Item x ∷ es) ys = ap (λ l. x ∷ l) (items_of-append es ys)
items_of-append (End ∷ es) ys = items_of-append es ys

pub has_end-item : {T : Type 0} (xs : List (Entry T)) (x : T) → has_end (xs ++ Item x ∷ []) ≡ has_end xs
has_end-item [] x = refl
has_end-item (Item y ∷ es) x = has_end-item es x
has_end-item (End ∷ es) x = refl

pub has_end-end : {T : Type 0} (xs : List (Entry T)) → has_end (xs ++ End ∷ []) ≡ true
has_end-end [] = refl
has_end-end (Item y ∷ es) = has_end-end es
has_end-end (End ∷ es) = refl

pub ends_once-end : {T : Type 0} (xs : List (Entry T)) → has_end xs ≡ false → ends_once (xs ++ End ∷ []) ≡ true
ends_once-end [] h = refl
ends_once-end (Item y ∷ es) h = ends_once-end es h
ends_once-end (End ∷ es) h = cc

pub items_of-item : {T : Type 0} (xs : List (Entry T)) (x : T) → items_of (xs ++ Item x ∷ []) ≡ items_of xs ++ x ∷ []
items_of-item xs x = items_of-append xs (Item x ∷ [])

pub items_of-end : {T : Type 0} (xs : List (Entry T)) → items_of (xs ++ End ∷ []) ≡ items_of xs
items_of-end [] = refl
items_of-end (Item y ∷ es) = ap (λ l. y ∷ l) (items_of-end es)
items_of-end (End ∷ es) = items_of-end es

pub ends_of-append : {T : Type 0} (xs ys : List (Entry T)) → ends_of (xs ++ ys) ≡ ends_of xs + ends_of ys
ends_of-append [] ys = omega arith
ends_of-append (Item y ∷ es) ys = ends_of-append es ys
ends_of-append (End ∷ es) ys = let more = ends_of-append es ys in omega (arith, more)

pub ends_of-item : {T : Type 0} (xs : List (Entry T)) (x : T) → ends_of (xs ++ Item x ∷ []) ≡ ends_of xs
ends_of-item xs x = omega (arith, ends_of-append xs (Item x ∷ []))

pub ends_of-end : {T : Type 0} (xs : List (Entry T)) → ends_of (xs ++ End ∷ []) ≡ ends_of xs + 1
ends_of-end xs = ends_of-append xs (End ∷ [])

pub ruleset pushes = (has_end-item, has_end-end, ends_once-end, items_of-item, items_of-end)
