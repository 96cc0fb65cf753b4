use Rattle.std.proofs.Common.{◌≡◌, ◌++◌, ◌∙◌, [], sym, ap, subst, append-nil}
use Rattle.std.specs.List.{flat_map}
use Rattle.std.specs.Option.{option_copied}
use Rattle.base_devices.specs.Pending.{outlet, Went}
use Rattle.base_devices.proofs.Outlets.{went-then}
use Rattle.net_inbox.specs.Inbox.{in_order}
use Rattle.output_patterns.specs.Scan.{all_occurrences}
use Rattle.output_patterns.specs.Published.{notices_of}
use Rattle.output_patterns.specs.Found.{found_line, heard_in, pattern_line, pattern_text}
use Rattle.output_patterns.specs.Parts.{PatternParts}
use Rattle.output_patterns.proofs.Occurring.{none-in-nothing}
use Rattle.output_patterns.proofs.writing.put_pattern.Goals as goal

pub returns-in-Some : goal.returns-in-Some
unfolding pattern_text
returns-in-Some g c =
    let old = outlet (g.K.Sink.state c.args.sink.now) c.args.out.now in
    let new = outlet (g.K.Sink.state c.put_occurrences.new.sink) c.put_occurrences.new.out in
    let heard : in_order c.received-received.result ≡ heard_in (option_copied c.args.inbox) = c.received-received.ensures ∙ ap (λ o. heard_in (option_copied o)) (sym c.in-Some.is) in
    subst (λ z. Went old new (pattern_text c.args.names.now c.args.notices.now z c.args.pattern)) heard
    (subst (λ (z : PatternParts). Went old new (pattern_text c.args.names.now c.args.notices.now (in_order c.received-received.result) z)) c.pattern.view_is (went-then _ _ _ _ _ c.put_head.ensures c.put_occurrences.ensures))

pub returns : goal.returns
unfolding pattern_text
returns g c =
    let old = outlet (g.K.Sink.state c.args.sink.now) c.args.out.now in
    let new = outlet (g.K.Sink.state c.put_head.new.sink) c.put_head.new.out in
    let nothing : [] ≡ heard_in (option_copied c.args.inbox) = ap (λ o. heard_in (option_copied o)) (sym c.in-None.is) in
    let head : Went old new (pattern_line c.args.names.now c.args.pattern.client c.args.pattern.label) =
    subst (λ (z : PatternParts). Went old new (pattern_line c.args.names.now z.client z.label)) c.pattern.view_is c.put_head.ensures in
    let silent = none-in-nothing (found_line c.args.names.now []) c.args.pattern.steps in
    subst (λ z. Went old new (pattern_text c.args.names.now c.args.notices.now z c.args.pattern)) nothing
    (subst (Went old new) (sym (append-nil (pattern_line c.args.names.now c.args.pattern.client c.args.pattern.label))
    ∙ ap (λ z. pattern_line c.args.names.now c.args.pattern.client c.args.pattern.label ++ z) (sym silent)) head)
