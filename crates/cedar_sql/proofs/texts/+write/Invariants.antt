use Rattle.std.proofs.Common.{◌+◌, ◌*◌, max}
use Rattle.cedar_sql.specs.declared.terms.SqlTerm.{size-SqlTerm}
use Rattle.cedar_sql.proofs.texts.+write.Given as goal

-- an expression is larger than its parts, and what writes several parts stands above what writes one
abbrev pub decreases-write_term : goal.decreases-write_term
decreases-write_term g l = 4 * size-SqlTerm l.term.now

abbrev pub decreases-write_one : goal.decreases-write_one
decreases-write_one g l = 4 * size-SqlTerm l.part.now + 1

abbrev pub decreases-write_two : goal.decreases-write_two
decreases-write_two g l = 4 * max (size-SqlTerm l.first.now) (size-SqlTerm l.second.now) + 2

abbrev pub decreases-write_choice : goal.decreases-write_choice
decreases-write_choice g l =
    4 * max (size-SqlTerm l.test.now) (max (size-SqlTerm l.yes.now) (size-SqlTerm l.no.now)) + 3
