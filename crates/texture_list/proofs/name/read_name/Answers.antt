-- `texture_list::name::read_name` meets its contract: what was read so far, and zeros after it.
-- Assumes nothing.
use Rattle.std.specs.Prelude.{◌≡◌, ◌+◌, get_or}
use Rattle.std.proofs.Common.{rules, ap, ◌∙◌}
use Rattle.std.proofs.lemmas.List.{set-get_or}
use Rattle.texture_list.specs.Name.{name_at}
use Rattle.texture_list.proofs.Names.{read_end, read_more}
use Rattle.texture_list.proofs.name.read_name.Goals as goal

pub loop-i-preserved : goal.loop-i-preserved
loop-i-preserved c =
    let e : c.unwrap_or-b.result ≡ get_or c.args.s.now (c.start-at.result + c.loop-i.i) 0 = search rules in
    read_more _ _ _ _ c.loop-i.invariant _ e c.loop-i-test.true _ c.if-b-eq-END.false c.to_ascii_lowercase.ensures.value

pub returns-then-b-eq-END : goal.returns-then-b-eq-END
returns-then-b-eq-END c =
    let e : c.unwrap_or-b.result ≡ get_or c.args.s.now (c.start-at.result + c.loop-i.i) 0 = search rules in
    rw set-get_or (read_end _ _ _ _ c.loop-i.invariant _ e c.loop-i-test.true c.if-b-eq-END.true ∙ ap (λ p. name_at c.args.s.now p) c.start-at.ensures)
