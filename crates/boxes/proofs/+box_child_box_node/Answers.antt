-- The proof of the cycle of calls {box_child, box_node}. Assumes nothing.
use Rattle.std.proofs.Common.{refl, ap, ◌∙◌}
use Rattle.format.specs.Answer.{answer}
use Rattle.boxes.proofs.Laws.{box_outside, box_spent, box_unread, box_unplaned, box_on_one, box_on_both, word_end}
use Rattle.boxes.proofs.+box_child_box_node.Goals as goal
use Rattle.format.proofs.Answers.{handed_on}

pub box_child-returns-in_err-end_contents : goal.box_child-returns-in_err-end_contents
box_child-returns-in_err-end_contents t c =
    rw (handed_on c.from_residual.ensures.1) (word_end _ _ _ _ _ _ c.if-word-lt32768.false c.in_err-end_contents.ensures)

pub box_child-returns : goal.box_child-returns
box_child-returns t c = ap answer c.only.ensures ∙ word_end _ _ _ _ _ _ c.if-word-lt32768.false c.in_ok-end_contents.ensures

pub box_node-returns-then-t-node : goal.box_node-returns-then-t-node
box_node-returns-then-t-node t c = box_outside _ _ _ _ _ _ c.if-t-node.true

pub box_node-returns-then-levels-eq0 : goal.box_node-returns-then-levels-eq0
box_node-returns-then-levels-eq0 t c = box_spent _ _ _ _ _ _ c.if-t-node.false c.if-levels-eq0.true

pub box_node-returns-in_err-words : goal.box_node-returns-in_err-words
box_node-returns-in_err-words t c =
    rw (handed_on c.from_residual.ensures.1) (box_unread _ _ _ _ _ _ c.if-t-node.false c.if-levels-eq0.false _ c.in_err-words.ensures)

pub box_node-returns-in_err-plane : goal.box_node-returns-in_err-plane
box_node-returns-in_err-plane t c =
    rw (handed_on c.from_residual-in_err-plane.ensures.1) (box_unplaned _ _ _ _ _ _ c.if-t-node.false c.if-levels-eq0.false _ c.in_ok-words.ensures c.in_err-plane.ensures)

pub box_node-returns-in_err-front-in-Both : goal.box_node-returns-in_err-front-in-Both
box_node-returns-in_err-front-in-Both t c =
    rw (handed_on c.from_residual-in_err-front-in-Both.ensures.1)
    (box_on_both _ _ _ _ _ _ c.if-t-node.false c.if-levels-eq0.false _ c.in_ok-words.ensures c.in_ok-plane.ensures c.requires c.box_side.ensures c.in-Both.is
    c.in_err-front-in-Both.ensures c.on-in-Both.ensures refl refl)

pub box_node-returns-in_err-back-in-Both : goal.box_node-returns-in_err-back-in-Both
box_node-returns-in_err-back-in-Both t c =
    rw (handed_on c.from_residual-in_err-back-in-Both.ensures.1)
    (box_on_both _ _ _ _ _ _ c.if-t-node.false c.if-levels-eq0.false _ c.in_ok-words.ensures c.in_ok-plane.ensures c.requires c.box_side.ensures c.in-Both.is
    c.in_ok-front-in-Both.ensures c.on-in-Both.ensures c.in_err-back-in-Both.ensures c.on-in-Both-2.ensures)

pub box_node-returns-in_ok-back-in-Both : goal.box_node-returns-in_ok-back-in-Both
box_node-returns-in_ok-back-in-Both t c =
    box_on_both _ _ _ _ _ _ c.if-t-node.false c.if-levels-eq0.false _ c.in_ok-words.ensures c.in_ok-plane.ensures c.requires c.box_side.ensures c.in-Both.is
    c.in_ok-front-in-Both.ensures c.on-in-Both.ensures c.in_ok-back-in-Both.ensures c.on-in-Both-2.ensures

pub box_node-returns-in-One : goal.box_node-returns-in-One
box_node-returns-in-One t c =
    c.box_child.ensures
    ∙ box_on_one _ _ _ _ _ _ c.if-t-node.false c.if-levels-eq0.false _ c.in_ok-words.ensures c.in_ok-plane.ensures c.requires c.box_side.ensures c.in-One.is _ c.is_front.ensures c.on.ensures
