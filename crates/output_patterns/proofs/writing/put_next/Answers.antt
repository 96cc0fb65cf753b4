use Rattle.std.proofs.Common.{[], sym, ◌∙◌}
use Rattle.base_devices.proofs.Outlets.{went-nothing}
use Rattle.net_inbox.specs.Inbox.{in_order}
use Rattle.output_patterns.specs.Found.{found_line}
use Rattle.output_patterns.proofs.Occurring.{nothing-ends, one-ends, told-now}
use Rattle.output_patterns.proofs.writing.put_next.Goals as goal

pub returns-then-feed-clause-went : goal.returns-then-feed-clause-went
returns-then-feed-clause-went g c =
    let line = found_line c.args.heard.names.now (in_order c.args.heard.received) in
    let before = c.args.detector.now in
    let t = told-now before.steps c.feed.new.self.steps before.fed c.feed.new.self.fed c.args.notice.now c.feed.result c.requires.some c.feed.ensures.steps c.feed.ensures.fed c.feed.ensures.ends in (
      line c.places.result.now,
      c.put_occurrence.ensures,
      one-ends line before.steps before.fed c.args.notice.now c.places.result.now c.requires.some (sym t ∙ c.if-feed.true) (rw (c.feed.ensures.steps, c.feed.ensures.fed) at c.places.ensures),
    )

pub returns-else-feed-clause-went : goal.returns-else-feed-clause-went
returns-else-feed-clause-went g c =
    let line = found_line c.args.heard.names.now (in_order c.args.heard.received) in
    let before = c.args.detector.now in
    let t = told-now before.steps c.feed.new.self.steps before.fed c.feed.new.self.fed c.args.notice.now c.feed.result c.requires.some c.feed.ensures.steps c.feed.ensures.fed c.feed.ensures.ends in
    ([], went-nothing _, nothing-ends line before.steps before.fed c.args.notice.now c.requires.some (sym t ∙ c.if-feed.false))
