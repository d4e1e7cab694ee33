-- The points of specs/Trials.antt, computed. Assumes nothing.
use mathlib.Core.Path.{◌≡◌, refl}
use lib.Ieee.{sub, lt, le}
use Rattle.format.specs.Contents.{equal}
use Rattle.walk.specs.Walk.{enter, meet, walk}
use Rattle.ways.specs.Ways.{different, ways}
use Rattle.points.specs.Points.{contents_of_points}
use Rattle.points_tree.specs.Trials.{two_points, meant}

pub as_meant : two_points ≡ meant
unfolding two_points meant contents_of_points different ways walk enter meet equal sub lt le
as_meant = refl
