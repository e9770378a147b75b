-- What went wrong with a flow.
use Rattle.std.specs.Prelude.{ℕ, ◌+◌, ◌-◌, ◌^◌, min}
use Rattle.capture_picture.specs.declared.marks.Mark.{Mark}
use Rattle.capture_picture.specs.declared.marks.Mark.TheVariants.{Lost, Late, BadCheck, Restart}
use Rattle.capture_picture.specs.declared.marks.Marks.{Marks}

-- a number stays at its greatest value, 2^64 − 1
abbrev pub kept_within : ℕ → ℕ
kept_within number = min number (2 ^ 64 - 1)

abbrev pub no_marks : Marks
no_marks = record { lost = 0; late = 0; bad_checks = 0; restarts = 0 }

-- how many marks of a kind there were
abbrev pub count_of_mark : Marks → Mark → ℕ
count_of_mark marks Lost = marks.lost
count_of_mark marks Late = marks.late
count_of_mark marks BadCheck = marks.bad_checks
count_of_mark marks Restart = marks.restarts

-- so many more
abbrev pub with_marks : Mark → ℕ → Marks → Marks
with_marks Lost count marks = record marks { lost = kept_within (marks.lost + count) }
with_marks Late count marks = record marks { late = kept_within (marks.late + count) }
with_marks BadCheck count marks = record marks { bad_checks = kept_within (marks.bad_checks + count) }
with_marks Restart count marks = record marks { restarts = kept_within (marks.restarts + count) }

-- those of both
abbrev pub both_marks : Marks → Marks → Marks
both_marks one other = record {
  lost = kept_within (one.lost + other.lost);
  late = kept_within (one.late + other.late);
  bad_checks = kept_within (one.bad_checks + other.bad_checks);
  restarts = kept_within (one.restarts + other.restarts);
}
