use Rattle.std.proofs.Common.{◌≡◌, ◌++◌, ◌∷◌, [], sym, ap, ◌∙◌, append_assoc, arith, rules}
use Rattle.base_devices.proofs.Outlets.{went-nothing, went-then}
use Rattle.output_report.specs.Published.{by_number}
use Rattle.output_patterns.specs.Found.{heard_in, pattern_text, patterns_text}
use Rattle.output_patterns.specs.Published.{ArePublished}
use Rattle.output_patterns.proofs.Lookup.{each-number, heard-by}
use Rattle.output_patterns.proofs.found.put_patterns.Goals as goal

pub loop-pattern-init : goal.loop-pattern-init
loop-pattern-init g c = ([], went-nothing _, ap (patterns_text c.args.published.now.names.items c.args.published.now.notices.items c.args.received.now) c.into_iter-pattern-iterator.ensures.into_iter_gives.0)

pub put_pattern-requires : goal.put_pattern-requires
put_pattern-requires g c =
    rw (c.deref-in-loop-pattern.ensures.value, c.at_number-inbox.ensures, heard-by c.args.received.now c.pattern.inside.client)
    (each-number (ArePublished c.args.published.now.notices.items) c.args.received.now c.pattern.inside.client (λ k d lt. absurd (omega (arith, lt))) c.requires)

rest : (g : _) (c : goal.After-put_pattern g) → c.loop-pattern.pattern-iterator.rest.items ≡ c.in-Some.pattern ∷ c.next.new.self.rest.items
rest g c = search rules

pub loop-pattern-preserved : goal.loop-pattern-preserved
loop-pattern-preserved g c =
    let (done, went, left) = c.loop-pattern.invariant in
    let names = c.args.published.now.names.items in
    let notices = c.args.published.now.notices.items in
    let shown = ap heard_in c.at_number-inbox.ensures ∙ heard-by c.args.received.now c.pattern.inside.client ∙ ap (λ z. by_number c.args.received.now z.client) c.pattern.view_is in
    let text = pattern_text names notices (by_number c.args.received.now c.in-Some.pattern.client) c.in-Some.pattern in (
      done ++ text,
      went-then _ _ _ done text went (rw (c.deref.ensures.value, c.deref-in-loop-pattern.ensures.value, shown) at c.put_pattern.ensures),
      append_assoc done text (patterns_text names notices c.args.received.now c.next.new.self.rest.items)
          ∙ ap (λ z. done ++ patterns_text names notices c.args.received.now z) (sym (rest g c)) ∙ left,
    )
