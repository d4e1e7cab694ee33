-- What the answers of the functions stand for: the cases of the enums of src/, each as a value or as the number of a refusal. A reader of the
-- calls may leave this file out.
use Rattle.std.specs.Prelude.{ℕ, Option, Some, None}
use Rattle.format.specs.Answer.{Answer, answer, refused}
use Rattle.nodes.specs.Tables.{End}
use Rattle.nodes.specs.Lanes.{lane_end}
use Rattle.nodes.specs.declared.table.HullTable.{HullTable}
use Rattle.nodes.specs.declared.lanes.Lane.{Lane}

abbrev pub two_answer : HullTable → Option (Lane × Lane) → Answer ((End × ℕ) × (End × ℕ))
two_answer t (Some (a, b)) = answer (lane_end t a, lane_end t b)
two_answer t None = refused 0

abbrev pub one_answer : HullTable → Option Lane → Answer (End × ℕ)
one_answer t (Some l) = answer (lane_end t l)
one_answer t None = refused 0
