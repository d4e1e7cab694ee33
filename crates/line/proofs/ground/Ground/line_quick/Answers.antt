-- `line::ground::Ground::line_quick` meets its contract. Assumes nothing.
use Rattle.line.proofs.Follows.{came_blocked}
use Rattle.line.proofs.ground.Ground.line_quick.Goals as goal

pub returns-in-Blocked : goal.returns-in-Blocked
returns-in-Blocked c = let g = c.args.self.now in
    came_blocked g g.start g.end c.requires.1 c.in_ok-q.ensures c.in-Blocked.is c.seen_line-in-Blocked.ensures _ c.stop_at.ensures
