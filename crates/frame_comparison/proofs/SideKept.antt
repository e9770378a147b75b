-- What is kept of one side once one of its queues changed.
use Rattle.std.proofs.Common.{◌≡◌, ℕ, ◌+◌, ◌-◌, ◌<◌, ◌≤◌, Some, None, Result, Ok, Err, OnErr, List, [], ◌∷◌, ◌++◌, length, map, take, drop, set, get_or, refl, ap, ◌∙◌, sym, subst, arith}
use Rattle.std.proofs.lemmas.List.{map-set, set-get_or, get_or-map, length-map, length-take, take_all, drop_all, drop-drop}
use Rattle.frame_comparison.specs.Frames.{CameFrame, SideFrames, ShownFrame, shown_of, frames_given_up}
use Rattle.frame_comparison.specs.Compared.{shown_of_all, all_given_up, other_moved, own_moved, longest_wait}
use Rattle.frame_comparison.specs.Seen.{SideSeen, side_seen_after, listed}
use Rattle.frame_comparison.proofs.Settled.{given_up-all, given_up-settled}

-- what waits of a flow is what its queue has
pub waiting-read : {Q : Type 0} (items : Q → List CameFrame) (queues : List Q) (flow : ℕ) (queue : Q) → flow < length (map items queues)
    → queue ≡ get_or queues flow queue → get_or (map items queues) flow [] ≡ items queue
waiting-read items queues flow queue within read =
    let inside : flow < length queues = subst (λ count. flow < count) (length-map queues items) within in
    get_or-map items queues flow queue [] inside ∙ ap items (sym read)

-- a queue is changed, and what is listed
pub side-kept : {Q : Type 0} (items : Q → List CameFrame) (queues : List Q) (only : List ShownFrame) (flow : ℕ) (queue : Q) (listing : List ShownFrame)
    (more : SideFrames) → items queue ≡ more.waiting → listing ≡ listed (only ++ shown_of_all flow more.settled)
    → (let new : SideSeen = record { waiting = map items (set queues flow queue); only = listing } in
    let old : SideSeen = record { waiting = map items queues; only = only } in new ≡ side_seen_after flow more old)
side-kept items queues only flow queue listing more waits lists =
    rw (map-set, waits, lists) refl

-- all that waits of a flow is given up
pub all-kept : {Q : Type 0} (items : Q → List CameFrame) (queues : List Q) (only : List ShownFrame) (flow : ℕ) (queue new : Q) (count : ℕ)
    (listing : List ShownFrame) → flow < length (map items queues) → queue ≡ get_or queues flow queue → count ≡ length (items queue)
    → items new ≡ drop count (items queue) → listing ≡ listed (only ++ map (shown_of flow) (take count (items queue)))
    → (let old : SideSeen = record { waiting = map items queues; only = only } in let kept : SideSeen = record { waiting = map items (set queues flow new); only = listing } in
    kept ≡ side_seen_after flow (all_given_up (get_or (map items queues) flow [])) old)
all-kept items queues only flow queue new count listing within read counted waits lists =
    let waiting = get_or (map items queues) flow [] in
    let is : waiting ≡ items queue = waiting-read items queues flow queue within read in
    let few : length (items queue) ≤ count = omega arith in
    side-kept items queues only flow new listing (all_given_up waiting) (waits ∙ drop_all count (items queue) few)
    (lists ∙ ap (λ all. listed (only ++ map (shown_of flow) all)) (take_all count (items queue) few ∙ (sym is ∙ sym (given_up-all waiting))))

-- of the other side the frame at a place is taken out, and those before it are given up
pub settled-kept : {Q : Type 0} (items : Q → List CameFrame) (queues : List Q) (only : List ShownFrame) (flow : ℕ) (queue new : Q) (place : ℕ)
    (listing : List ShownFrame) → flow < length (map items queues) → queue ≡ get_or queues flow queue
    → items new ≡ drop 1 (drop place (items queue)) → listing ≡ listed (only ++ map (shown_of flow) (take place (items queue)))
    → (let old : SideSeen = record { waiting = map items queues; only = only } in let kept : SideSeen = record { waiting = map items (set queues flow new); only = listing } in
    kept ≡ side_seen_after flow (other_moved (Some place) (get_or (map items queues) flow [])) old)
settled-kept items queues only flow queue new place listing within read waits lists =
    let waiting = get_or (map items queues) flow [] in
    let is : waiting ≡ items queue = waiting-read items queues flow queue within read in
    side-kept items queues only flow new listing (other_moved (Some place) waiting)
    (waits ∙ (drop-drop 1 place (items queue) ∙ ap (drop (place + 1)) (sym is)))
    (lists ∙ ap (λ all. listed (only ++ map (shown_of flow) all)) (ap (take place) (sym is) ∙ sym (given_up-settled (take place waiting) (take 1 (drop place waiting)))))

-- one more waits, and where too many do, the first is given up
pub waits-kept : {Q : Type 0} (items : Q → List CameFrame) (queues : List Q) (only : List ShownFrame) (flow : ℕ) (queue new : Q) (excess : ℕ)
    (frame : CameFrame) (all : List CameFrame) (listing : List ShownFrame) → flow < length (map items queues) → queue ≡ get_or queues flow queue
    → all ≡ items queue ++ frame ∷ [] → excess ≡ length all - longest_wait
    → items new ≡ drop excess all → listing ≡ listed (only ++ map (shown_of flow) (take excess all))
    → (let old : SideSeen = record { waiting = map items queues; only = only } in let kept : SideSeen = record { waiting = map items (set queues flow new); only = listing } in
    kept ≡ side_seen_after flow (own_moved None frame (get_or (map items queues) flow [])) old)
waits-kept items queues only flow queue new excess frame all listing within read pushed over waits lists =
    let waiting = get_or (map items queues) flow [] in
    let is : all ≡ waiting ++ frame ∷ [] = pushed ∙ ap (λ some. some ++ frame ∷ []) (sym (waiting-read items queues flow queue within read)) in
    let same : excess ≡ length (waiting ++ frame ∷ []) - longest_wait = over ∙ ap (λ some. length some - longest_wait) is in
    side-kept items queues only flow new listing (own_moved None frame waiting)
    (waits ∙ (ap (drop excess) is ∙ ap (λ count. drop count (waiting ++ frame ∷ [])) same))
    (lists ∙ ap (λ some. listed (only ++ map (shown_of flow) some))
    (ap (take excess) is ∙ (ap (λ count. take count (waiting ++ frame ∷ [])) same
    ∙ sym (given_up-all (take (length (waiting ++ frame ∷ []) - longest_wait) (waiting ++ frame ∷ []))))))

-- a queue that couldn't be lengthened is as it was
pub side-refused : {Q : Type 0} (items : Q → List CameFrame) (queues : List Q) (only : List ShownFrame) (flow : ℕ) (queue new : Q)
    → queue ≡ get_or queues flow queue → items new ≡ items queue
    → (let old : SideSeen = record { waiting = map items queues; only = only } in let kept : SideSeen = record { waiting = map items (set queues flow new); only = only } in
    kept ≡ old)
side-refused items queues only flow queue new read same =
    let lists : map items (set queues flow new) ≡ map items queues =
    map-set items queues flow new ∙ (ap (λ some. set (map items queues) flow some) (same ∙ ap items read) ∙ (sym (map-set items queues flow (get_or queues flow queue))
    ∙ ap (map items) (set-get_or queues flow queue)))
    in
    ap (λ some. let one : SideSeen = record { waiting = some; only = only } in one) lists

pub on_err-always : {T E P : Type 0} (r : Result T E) → P → OnErr r P
on_err-always (Ok x) p = tt
on_err-always (Err e) p = p

-- how many were given up as too many waited
pub waits-count : {Q : Type 0} (items : Q → List CameFrame) (queues : List Q) (flow : ℕ) (queue : Q) (excess : ℕ)
    (frame : CameFrame) (all : List CameFrame) → flow < length (map items queues) → queue ≡ get_or queues flow queue
    → all ≡ items queue ++ frame ∷ [] → excess ≡ length all - longest_wait
    → excess ≡ length (frames_given_up (own_moved None frame (get_or (map items queues) flow [])).settled)
waits-count items queues flow queue excess frame all within read pushed over =
    let waiting = get_or (map items queues) flow [] in
    let is : all ≡ waiting ++ frame ∷ [] = pushed ∙ ap (λ some. some ++ frame ∷ []) (sym (waiting-read items queues flow queue within read)) in
    let same : excess ≡ length (waiting ++ frame ∷ []) - longest_wait = over ∙ ap (λ some. length some - longest_wait) is in
    let taken = length-take (length (waiting ++ frame ∷ []) - longest_wait) (waiting ++ frame ∷ []) in
    same ∙ (sym (taken ∙ omega arith) ∙ sym (ap length (given_up-all (take (length (waiting ++ frame ∷ []) - longest_wait) (waiting ++ frame ∷ [])))))
