-- `line::ground::Ground::follow` meets its contract. The loop's invariant: the line stands at a child, and the planes that wait are kept in the list;
-- the first end that it comes to says whether it is blocked or goes on, past them, to what becomes of it from where it stood first. Assumes nothing.
use Prim.Native.Nat.{◌<◌, ◌≤◌}
use mathlib.Core.Path.{◌≡◌}
use lib.ListN.{length, drop, get_or}
use Rattle.nodes.specs.Fast.{point_of}
use Rattle.line.specs.Private.{from_start, seen_line, stands, stand_went}
use Rattle.line.proofs.Follows.{blank, Standing}
use Rattle.line.proofs.ground.Ground.follow.Given as goal

abbrev pub invariant-loop : goal.invariant-loop
invariant-loop l =
    (l.n ≤ 10) × (length l.marks ≡ 11) × (point_of (get_or l.marks 10 blank).point ≡ l.fn.end) × (l.left ≤ 512) × (l.seen < 8)
    × Standing l.self.s.now l.self.t l.self.root (from_start l.fn.root l.fn.start l.fn.end).part (drop l.n l.marks) (stands l.word l.left l.x (get_or l.marks l.n blank)) (seen_line l.fn.end l.seen) l.x l.looked (stand_went l.self (from_start l.fn.root l.fn.start l.fn.end))
