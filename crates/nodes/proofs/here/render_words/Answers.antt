-- `render_words` meets its contract: the plane's number and the face's, which refuse with the same number.
-- Assumes nothing.
use Rattle.std.proofs.Common.{arith}
use Rattle.nodes.proofs.Renders.{bad_plane, unless_plane, bad_face, all_good}
use Rattle.nodes.proofs.Sections.{two_words}
use Rattle.nodes.proofs.here.render_words.Goals as goal

pub returns-then-plane-ge2147483648 : goal.returns-then-plane-ge2147483648
returns-then-plane-ge2147483648 c = λ file a w. bad_plane _ file a _ _ w c.requires c.u32_at-plane.ensures c.if-plane-ge2147483648.true

pub returns-then-u16_at-ge32768 : goal.returns-then-u16_at-ge32768
returns-then-u16_at-ge32768 c = λ file a w. unless_plane _ file a _ _ w c.requires c.u32_at-plane.ensures (λ l. bad_face _ file a _ _ w c.requires c.u32_at-plane.ensures l _ c.u16_at.ensures c.if-u16_at-ge32768.true)

pub returns : goal.returns
returns c = λ file a w. all_good _ file a _ _ w c.requires c.u32_at-plane.ensures c.if-plane-ge2147483648.false _ c.u16_at.ensures c.if-u16_at-ge32768.false _ (two_words _ _ _ (λ i. omega (arith, c.type_inv.s i)) c.u32_at-both.ensures)
