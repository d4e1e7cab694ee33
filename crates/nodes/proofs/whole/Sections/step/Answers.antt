-- `step` meets its contract: an end stays, then the node's index (30), the visits (31), its record and its plane.
-- Assumes nothing.
use Rattle.std.proofs.Common.{◌<◌, Ok, Err, refl, arith}
use Rattle.nodes.specs.Walks.{child_toward, onward_answer}
use Rattle.nodes.proofs.Making.{none_of, made_toward, whole_answer}
use Rattle.nodes.proofs.Beside.{refused_step, word_step}
use Rattle.nodes.proofs.whole.Sections.step.Goals as goal

pub returns-in-Err-clause-said : goal.returns-in-Err-clause-said
returns-in-Err-clause-said c = λ s t whole read on is-k is_c.
    let a = c.args in
    let e = c.in-Err.field-0 in
    let l : a.word < t.nodes.count = omega (arith, is_c, c.if-count-word.false) in
    let v : a.visits < t.nodes.count = omega (arith, is_c, c.if-count-visits.false) in
    let small : t.nodes.count < 4294967296 = omega (arith, is_c, c.ranges) in
    refused_step s t _ a.word a.visits c.if-word-ge32768.false l v small (Err e)
    (whole_answer s t a.self.now.nodes.now a.self.now.planes.now whole read on a.self.now.render is-k a.word (child_toward _) l (λ x. onward_answer x (Err e)) (none_of (child_toward _) a.self.now.render a.self.now.nodes.now a.self.now.planes.now _ c.found_at.result c.found_at.ensures e c.in-Err.is)) e refl

pub returns-in-Ok-clause-said : goal.returns-in-Ok-clause-said
returns-in-Ok-clause-said c = λ s t whole read on is-k is_c.
    let a = c.args in
    let w = c.word_beside.result in
    let l : a.word < t.nodes.count = omega (arith, is_c, c.if-count-word.false) in
    let v : a.visits < t.nodes.count = omega (arith, is_c, c.if-count-visits.false) in
    let small : t.nodes.count < 4294967296 = omega (arith, is_c, c.ranges) in
    word_step s t _ a.word a.visits c.if-word-ge32768.false l v small (Ok w)
    (whole_answer s t a.self.now.nodes.now a.self.now.planes.now whole read on a.self.now.render is-k a.word (child_toward _) l (λ x. onward_answer x (Ok w)) (made_toward _ a.self.now.render a.self.now.nodes.now a.self.now.planes.now _ c.found_at.result c.found_at.ensures _ _ c.in-Ok.is w c.word_beside.ensures)) w refl (omega arith)
