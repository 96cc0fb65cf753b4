use Rattle.std.proofs.Math.ListN.{get_or-map}
use Rattle.std.proofs.lemmas.List.{length-map}
use Rattle.std.proofs.Common.{◌≡◌, true, ◌<◌, length, ◌++◌, ◌∷◌, [], take, refl, sym, ap, subst, ◌∙◌}
use Rattle.base_devices.specs.Pending.{outlet, Went}
use Rattle.base_devices.proofs.Outlets.{went-nothing, went-then}
use Rattle.filter_text.specs.Deliveries.{Delivery}
use Rattle.net_inbox.specs.Inbox.{delivery_at, in_order}
use Rattle.output_patterns.specs.Found.{found_line}
use Rattle.output_patterns.specs.Published.{is_published, notice_at, notices_of}
use Rattle.output_patterns.proofs.Chain.{map-next}
use Rattle.output_patterns.proofs.Occurring.{moved, none-in-nothing}
use Rattle.output_patterns.proofs.writing.put_occurrences.Goals as goal

pub loop-number-init : goal.loop-number-init
loop-number-init g c =
    let o = outlet (g.K.Sink.state c.args.sink.now) c.args.out.now in
    (refl, c.requires.nothing, subst (Went o o) (sym (none-in-nothing (found_line c.args.heard.names.now (in_order c.args.heard.received)) c.args.detector.steps)) (went-nothing o))

pub loop-number-preserved : goal.loop-number-preserved
loop-number-preserved g c =
    let (steps, fed, went) = c.loop-number.invariant in
    let (line, more, text) = c.put_next.ensures.went in
    let notices = c.args.notices.now in
    let i = c.loop-number.number-index in
    let all = c.args.heard.received.deliveries.now in
    let numbers = c.args.heard.received.numbers.now in
    let long : i < length (in_order c.args.heard.received) = subst (λ n. i < n) (sym (length-map numbers (delivery_at all))) c.loop-number-test.true in
    let next = map-next (λ d. notice_at notices d.id) (in_order c.args.heard.received) i (delivery_at all 0) long in
    let said = c.notice_at.ensures ∙ ap (λ d. notice_at notices d.id) (c.at-in-loop-number.view_is ∙ c.at.ensures ∙ sym (get_or-map (delivery_at all) numbers i 0)) in
    let heard = ap (λ z. z ++ c.notice_at.result.now ∷ []) fed ∙ ap (λ n. notices_of notices (take i (in_order c.args.heard.received)) ++ n ∷ []) said ∙ sym next in (
      c.put_next.ensures.steps ∙ steps,
      c.put_next.ensures.fed ∙ heard,
      subst (Went (outlet (g.K.Sink.state c.args.sink.now) c.args.out.now)
          (outlet (g.K.Sink.state c.put_next.new.sink) c.put_next.new.out))
          (moved (found_line c.args.heard.names.now (in_order c.args.heard.received)) c.loop-number.detector.steps c.args.detector.steps c.loop-number.detector.fed _ _ c.notice_at.result.now line steps fed heard text)
          (went-then _ _ _ _ _ went more),
    )

pub notice_at-requires : goal.notice_at-requires
notice_at-requires g c =
    let all = c.args.heard.received.deliveries.now in
    let numbers = c.args.heard.received.numbers.now in
    let i = c.loop-number.number-index in
    let long : i < length (in_order c.args.heard.received) = subst (λ n. i < n) (sym (length-map numbers (delivery_at all))) c.loop-number-test.true in
    let same = c.at-in-loop-number.view_is ∙ c.at.ensures ∙ sym (get_or-map (delivery_at all) numbers i 0) in
    subst (λ (d : Delivery). is_published c.args.notices.now d.id ≡ true) (sym same) (c.requires.published i (delivery_at all 0) long)
