-- Which SIDs look like one flow: a guess.
use Rattle.std.specs.Prelude.{ℕ, ◌+◌, ◌-◌, ◌%◌, ◌==◌, ◌&&◌, ◌||◌, not, nat_lt, nat_le, Bool, List, length, slice_index, find, Option}
use Rattle.std.specs.List.{list_any}
use Rattle.seen_sids.specs.Rows.{numbers_of}
use Rattle.seen_sids.specs.declared.seen_sid.SeenSid.{SeenSid}

-- how far a number lies ahead of another, modulo 8192
abbrev pub ahead : ℕ → ℕ → ℕ
ahead first number = (number + 8192 - first % 8192) % 8192

-- a number lies from the first to the last of these
abbrev pub lies_within : List ℕ → ℕ → Bool
lies_within numbers number =
    nat_lt 0 (length numbers)
    && nat_le (ahead (slice_index numbers 0) number) (ahead (slice_index numbers 0) (slice_index numbers (length numbers - 1)))

abbrev pub some_within : List ℕ → List ℕ → Bool
some_within numbers others = list_any (lies_within numbers) others

-- a number is one of these, and some number is both of these and of those
abbrev pub is_one_of : List ℕ → ℕ → Bool
is_one_of numbers number = list_any (λ other. other == number) numbers

abbrev pub have_one : List ℕ → List ℕ → Bool
have_one numbers others = list_any (is_one_of numbers) others

-- **Two SIDs look like one flow** where their first numbers interleave without repeats.
abbrev pub look_like_one : SeenSid → SeenSid → Bool
look_like_one one other =
    (some_within (numbers_of one) (numbers_of other) || some_within (numbers_of other) (numbers_of one))
    && not (have_one (numbers_of one) (numbers_of other))

-- the first one of these with which a SID looks like one flow
abbrev pub twin_of : List SeenSid → SeenSid → Option SeenSid
twin_of rows row = find (λ one. look_like_one one row) rows
