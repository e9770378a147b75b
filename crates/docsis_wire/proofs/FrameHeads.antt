-- A frame and the head that is read of its first four bytes.
use Rattle.std.proofs.Common.{◌≡◌, ◌≢◌, ℕ, ◌+◌, ◌*◌, ◌/◌, ◌%◌, ◌<◌, ◌≤◌, ◌-◌, inl, inr, suc, List, [], ◌∷◌, ◌++◌, length, take, drop, get_or, Bool, true, false, IsTrue, cond, ◌==◌, ◌&&◌, ◌||◌, nat_lt, refl, sym, ap, ◌∙◌, arith, length-append, length-drop, append_assoc}
use Rattle.std.proofs.lemmas.List.{length-take-le, take-append-drop, take-take, nil_from_length}
use Rattle.std.proofs.lemmas.Bool.{cond-false, cond-true, or_parts, ltb-false, eqb-false, eq-eqb, ne_eqb, cases_eq}
use Rattle.std.proofs.lemmas.Bool.Decides.{nat_tests}
use Rattle.std.proofs.lemmas.Nat.{div-add-mod', div-mul-add, mod-mul-add}
use Rattle.docsis_wire.specs.declared.frame.HeadRead.TheVariants.{Short, Fill, Bad, Head}
use Rattle.docsis_wire.specs.declared.frame.HeadFault.TheVariants.{NoLength, ExtendedTooLong}
use Rattle.docsis_wire.specs.Words.{two_bytes}
use Rattle.docsis_wire.specs.Frame.{IsGenericFrame, IsFrame, IsFrameControl, IsExtendedHeader, header_front}
use Rattle.docsis_wire.specs.Head.{head_of, head_of_fields, has_no_length, extended_len, IsHeadOf}

-- MAC_PARM is the extended header's length where there is one
extended_len-is : (fc parm : ℕ) (ehdr : List ℕ) → IsExtendedHeader fc parm ehdr → extended_len fc parm ≡ length ehdr
extended_len-is fc parm ehdr (inl h) = cond-true (fc % 2 == 1) parm 0 (eq-eqb (fc % 2) 1 h.0) ∙ h.1
extended_len-is fc parm ehdr (inr h) = cond-false (fc % 2 == 1) parm 0 (ne_eqb (fc % 2) 1 (λ e. omega (arith, h.0))) ∙ ap length (sym h.1)

-- an extended header has at most 240 bytes
extended_le : (fc parm : ℕ) (ehdr : List ℕ) → IsExtendedHeader fc parm ehdr → length ehdr ≤ 240
extended_le fc parm ehdr (inl h) = h.2
extended_le fc parm ehdr (inr h) = rw h.1 (omega arith)

-- lawful fields announce a frame of 6 + LEN bytes
head_of_fields-lawful : (fc parm len ehdr : ℕ) → extended_len fc parm ≡ ehdr → ehdr ≤ 240 → ehdr ≤ len → IsFrameControl fc → fc + parm + len ≢ 0 → head_of_fields fc parm len ≡ Head ehdr (6 + len)
head_of_fields-lawful fc parm len ehdr e small within control some =
    let not_zero : (fc == 0 && parm == 0 && len == 0) ≡ false = grind (arith, nat_tests) in
    let has_length : has_no_length fc ≡ false = grind (arith, nat_tests, control.not_c4, control.not_c5, control.not_c8, control.not_c9) in
    let fits : (nat_lt 240 (extended_len fc parm) || nat_lt len (extended_len fc parm)) ≡ false = rw e (grind (arith, nat_tests)) in
    cond-false _ _ _ not_zero ∙ cond-false _ _ _ has_length ∙ cond-false _ _ _ fits ∙ ap (λ n. Head n (6 + len)) e

-- a frame has 6 + LEN bytes
pub length-frame : (frame : List ℕ) (h : IsGenericFrame frame) → length frame ≡ 6 + h.len
length-frame frame h = ap length h.spelled ∙ simp length-append (omega (arith, h.len_is, h.hcs_is))

-- whatever follows a frame of the generic format, its extended header's length and its own are read
head_of-generic : (frame more : List ℕ) (h : IsGenericFrame frame) → head_of (frame ++ more) ≡ Head (length h.ehdr) (length frame)
head_of-generic frame more h =
    let front = head_of_fields-lawful h.fc h.parm h.len (length h.ehdr) (extended_len-is h.fc h.parm h.ehdr h.ehdr_is) (extended_le h.fc h.parm h.ehdr h.ehdr_is) (omega (arith, h.len_is)) h.fc_is h.not_fill in
    let read : head_of (frame ++ more) ≡ head_of_fields h.fc h.parm (h.len / 256 * 256 + h.len % 256) =
    ap (λ bytes. head_of (bytes ++ more)) h.spelled ∙ cond-false (h.fc == 255) _ _ (grind (arith, nat_tests, h.fc_is.not_ff)) in
    read ∙ ap (head_of_fields h.fc h.parm) (div-add-mod' h.len 256) ∙ front ∙ ap (Head (length h.ehdr)) (sym (length-frame frame h))

-- whatever follows a frame, its head and its length are read, and the check says yes of its header
pub head_of-frame : (check : List ℕ → Bool) (frame more : List ℕ) → IsFrame check frame → IsHeadOf check frame (head_of (frame ++ more))
head_of-frame check frame more h = (length h.generic.ehdr, head_of-generic frame more h.generic, h.checked)

-- a test that chose something else than z was false
not_chosen : {X : Type 0} (b : Bool) (x y z : X) → x ≢ z → cond b x y ≡ z → (b ≡ false) × (y ≡ z)
not_chosen true x y z other e = absurd (other e)
not_chosen false x y z other e = (refl, e)

-- what holds of the fields where they announce a frame of this many bytes
record Announces (fc parm len ehdr total : ℕ) : Type 0 where
  control : IsFrameControl fc
  not_fill : fc + parm + len ≢ 0
  ehdr_is : extended_len fc parm ≡ ehdr
  small : ehdr ≤ 240
  within : ehdr ≤ len
  total_is : total ≡ 6 + len

-- fields that announce a frame are lawful
Announces-from_front : (fc parm len ehdr total : ℕ) → fc ≢ 0xFF → head_of_fields fc parm len ≡ Head ehdr total → Announces fc parm len ehdr total
Announces-from_front fc parm len ehdr total not_ff e =
    let found = Head (extended_len fc parm) (6 + len) in
    let too_long = nat_lt 240 (extended_len fc parm) || nat_lt len (extended_len fc parm) in
    let sized = cond too_long (Bad ExtendedTooLong) found in
    let a = not_chosen (fc == 0 && parm == 0 && len == 0) Fill (cond (has_no_length fc) (Bad NoLength) sized) (Head ehdr total) (λ q. cc) e in
    let b = not_chosen (has_no_length fc) (Bad NoLength) sized (Head ehdr total) (λ q. cc) a.1 in
    let d = not_chosen too_long (Bad ExtendedTooLong) found (Head ehdr total) (λ q. cc) b.1 in
    let ehdr_is : extended_len fc parm ≡ ehdr = (let q = d.1 in cc) in
    let total_is : 6 + len ≡ total = (let q = d.1 in cc) in
    let small : (nat_lt 240 ehdr || nat_lt len ehdr) ≡ false = rw ehdr_is at d.0 in
    record {
      control = record {
        not_c4 = (let q = b.0 in grind (arith, nat_tests));
        not_c5 = (let q = b.0 in grind (arith, nat_tests));
        not_c8 = (let q = b.0 in grind (arith, nat_tests));
        not_c9 = (let q = b.0 in grind (arith, nat_tests));
        not_ff = not_ff;
      };
      not_fill = (let q = a.0 in grind (arith, nat_tests));
      ehdr_is = ehdr_is;
      small = ltb-false 240 ehdr (or_parts _ _ small).0;
      within = ltb-false len ehdr (or_parts _ _ small).1;
      total_is = sym total_is;
    }

-- EHDR_ON with MAC_PARM bytes, or no bytes
IsExtendedHeader-from_len : (fc parm : ℕ) (ehdr : List ℕ) → extended_len fc parm ≡ length ehdr → length ehdr ≤ 240 → IsExtendedHeader fc parm ehdr
IsExtendedHeader-from_len fc parm ehdr e small =
    elim (cases_eq (fc % 2) 1) [
      | inl on ↦ inl (on, sym (cond-true (fc % 2 == 1) parm 0 (eq-eqb (fc % 2) 1 on)) ∙ e, small)
      | inr off ↦ inr (omega arith, nil_from_length ehdr (sym e ∙ cond-false (fc % 2 == 1) parm 0 (ne_eqb (fc % 2) 1 off)))
    ]

-- lawful fields and the bytes that they ask for are a frame
IsGenericFrame-from_fields : (fc parm high low ehdr total : ℕ) (body : List ℕ) → low < 256 → Announces fc parm (high * 256 + low) ehdr total → length body ≡ 2 + (high * 256 + low)
    → (h : IsGenericFrame (fc ∷ parm ∷ high ∷ low ∷ body)) × (length h.ehdr ≡ ehdr)
IsGenericFrame-from_fields fc parm high low ehdr total body small h size =
    let len = high * 256 + low in
    let word : two_bytes len ≡ high ∷ low ∷ [] = ap (λ n. n ∷ len % 256 ∷ []) (div-mul-add high 256 low small) ∙ ap (λ n. high ∷ n ∷ []) (mod-mul-add high 256 low small) in
    let long : length (take ehdr body) ≡ ehdr = length-take-le ehdr body (omega (arith, h.within)) in
    let tail : length (drop ehdr body) ≡ 2 + len - ehdr = length-drop ehdr body ∙ ap (λ n. n - ehdr) size in
    let parts : body ≡ take ehdr body ++ (take 2 (drop ehdr body) ++ drop 2 (drop ehdr body)) =
    sym (take-append-drop ehdr body) ∙ ap (λ t. take ehdr body ++ t) (sym (take-append-drop 2 (drop ehdr body))) in (
      record {
        fc = fc;
        parm = parm;
        len = len;
        ehdr = take ehdr body;
        hcs = take 2 (drop ehdr body);
        rest = drop 2 (drop ehdr body);
        spelled =
            ap (λ t. fc ∷ parm ∷ high ∷ low ∷ t) (parts ∙ sym (append_assoc (take ehdr body) (take 2 (drop ehdr body)) (drop 2 (drop ehdr body))))
            ∙ ap (λ w. fc ∷ parm ∷ w ++ take ehdr body ++ take 2 (drop ehdr body) ++ drop 2 (drop ehdr body)) (sym word);
        len_is = omega (arith, long, length-drop 2 (drop ehdr body), tail, h.within);
        hcs_is = length-take-le 2 (drop ehdr body) (omega (arith, tail, h.within));
        ehdr_is = IsExtendedHeader-from_len fc parm (take ehdr body) (h.ehdr_is ∙ sym long) (omega (arith, long, h.small));
        fc_is = h.control;
        not_fill = h.not_fill;
      },
      long,
    )

-- a frame of the generic format, and how long its extended header is
abbrev IsGenericOf : ℕ → List ℕ → Type 0
IsGenericOf ehdr frame = (h : IsGenericFrame frame) × (length h.ehdr ≡ ehdr)

-- as many bytes as a head announces are a frame of the generic format, where they are there
IsGenericFrame-from_head : (bytes : List ℕ) (ehdr total : ℕ) → ((i : ℕ) → get_or bytes i 0 < 256) → head_of bytes ≡ Head ehdr total → total ≤ length bytes → IsGenericOf ehdr (take total bytes)
IsGenericFrame-from_head [] ehdr total in_range e enough = absurd cc
IsGenericFrame-from_head (fc ∷ []) ehdr total in_range e enough = let q = (not_chosen (fc == 255) Fill Short (Head ehdr total) (λ q. cc) e).1 in absurd cc
IsGenericFrame-from_head (fc ∷ parm ∷ []) ehdr total in_range e enough = let q = (not_chosen (fc == 255) Fill Short (Head ehdr total) (λ q. cc) e).1 in absurd cc
IsGenericFrame-from_head (fc ∷ parm ∷ high ∷ []) ehdr total in_range e enough = let q = (not_chosen (fc == 255) Fill Short (Head ehdr total) (λ q. cc) e).1 in absurd cc
IsGenericFrame-from_head (fc ∷ parm ∷ high ∷ low ∷ more) ehdr total in_range e enough =
    let front = not_chosen (fc == 255) Fill (head_of_fields fc parm (high * 256 + low)) (Head ehdr total) (λ q. cc) e in
    let h = Announces-from_front fc parm (high * 256 + low) ehdr total (eqb-false fc 255 front.0) front.1 in
    let len = high * 256 + low in
    let four : total ≡ suc (suc (suc (suc (2 + len)))) = omega (arith, h.total_is) in
    rw four (IsGenericFrame-from_fields fc parm high low ehdr total (take (2 + len) more) (in_range 3) h (length-take-le (2 + len) more (omega (arith, enough))))

-- the header that a head announces ends within the frame that it announces
pub header_announced : (bytes : List ℕ) (ehdr total : ℕ) → head_of bytes ≡ Head ehdr total → 6 + ehdr ≤ total
header_announced [] ehdr total e = absurd cc
header_announced (fc ∷ []) ehdr total e = let q = (not_chosen (fc == 255) Fill Short (Head ehdr total) (λ q. cc) e).1 in absurd cc
header_announced (fc ∷ parm ∷ []) ehdr total e = let q = (not_chosen (fc == 255) Fill Short (Head ehdr total) (λ q. cc) e).1 in absurd cc
header_announced (fc ∷ parm ∷ high ∷ []) ehdr total e = let q = (not_chosen (fc == 255) Fill Short (Head ehdr total) (λ q. cc) e).1 in absurd cc
header_announced (fc ∷ parm ∷ high ∷ low ∷ more) ehdr total e =
    let front = not_chosen (fc == 255) Fill (head_of_fields fc parm (high * 256 + low)) (Head ehdr total) (λ q. cc) e in
    let h = Announces-from_front fc parm (high * 256 + low) ehdr total (eqb-false fc 255 front.0) front.1 in
    omega (arith, h.total_is, h.within)

-- with a header that the check says yes of, they are a frame
pub IsFrame-from_head : (check : List ℕ → Bool) (bytes : List ℕ) (ehdr total : ℕ) → ((i : ℕ) → get_or bytes i 0 < 256) → head_of bytes ≡ Head ehdr total → total ≤ length bytes
    → IsTrue (check (header_front ehdr bytes)) → IsFrame check (take total bytes)
IsFrame-from_head check bytes ehdr total in_range e enough checked =
    let g = IsGenericFrame-from_head bytes ehdr total in_range e enough in
    let within = header_announced bytes ehdr total e in
    let same : header_front (length g.0.ehdr) (take total bytes) ≡ header_front ehdr bytes =
    ap (λ n. header_front n (take total bytes)) g.1 ∙ take-take (6 + ehdr) total bytes within in
    record { generic = g.0; checked = ap check same ∙ checked }
