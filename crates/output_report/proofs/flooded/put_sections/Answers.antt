use Rattle.std.proofs.Common.{◌+◌, [], ◌++◌, drop, refl, sym, ap, ◌∙◌, append_assoc}
use Rattle.base_devices.proofs.Outlets.{went-then, went-nothing}
use Rattle.output_report.specs.Flood.{flood_section, flood_sections}
use Rattle.output_report.proofs.Sections.{flood-next}
use Rattle.output_report.proofs.flooded.put_sections.Goals as goal

pub loop-i-init : goal.loop-i-init
loop-i-init g c = ([], went-nothing _, refl)

pub loop-i-preserved : goal.loop-i-preserved
loop-i-preserved g c =
    let (done, went, rest) = c.loop-i.invariant in
    let i = c.loop-i.i in
    let clients = c.args.published.clients.now in
    let texts = c.args.published.texts.now in
    let section = rw (c.as_slice.ensures, c.as_slice-in-loop-i.ensures) at c.put_section.ensures in
    let text = flood_section clients texts c.client-item.result c.index-refused-i.result c.index-rows-i.result in
    let next = flood-next clients texts clients c.args.refused.now c.args.rows.now i c.client-item.result c.index-refused-i.result c.index-rows-i.result
    c.loop-i-test.true c.requires.refused c.requires.rows c.client-item.is c.index-refused-i.is c.index-rows-i.is in (
      done ++ text,
      went-then _ _ _ done text went section,
      append_assoc done text (flood_sections clients texts (drop (i + 1) clients) (drop (i + 1) c.args.refused.now) (drop (i + 1) c.args.rows.now))
          ∙ ap (λ l. done ++ l) (sym next) ∙ rest,
    )
