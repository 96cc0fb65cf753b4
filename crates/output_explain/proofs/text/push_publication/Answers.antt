use Rattle.std.proofs.Common.{◌++◌}
use Rattle.std.specs.Prelude.{codes}
use Rattle.base.proofs.Lists.{append-chain}
use Rattle.filter_text.specs.NoticeText.{notice_text}
use Rattle.output_explain.specs.Text.{id_text, publication_line}
use Rattle.output_explain.proofs.text.push_publication.Goals as goal

pub returns : goal.returns
unfolding publication_line
returns c =
    let out = c.args.out.now.items in
    let word = codes "publication " in
    let id = id_text c.args.clients.now c.args.e.now.id in
    let text = notice_text c.args.e.now.notice in
    let first = append-chain out word id c.extend_from_slice.new.self.items c.push_id.new.out.items c.in_ok-extend_from_slice.ensures.items c.in_ok-push_id.ensures in
    let second = append-chain out (word ++ id) (codes " ") c.push_id.new.out.items c.extend_from_slice-2.new.self.items first c.in_ok-extend_from_slice-2.ensures.items in
    let third = append-chain out ((word ++ id) ++ codes " ") text c.extend_from_slice-2.new.self.items c.push_notice.new.out.items second c.in_ok-push_notice.ensures in
    append-chain out (((word ++ id) ++ codes " ") ++ text) (codes "\n") c.push_notice.new.out.items c.extend_from_slice-3.new.self.items third
    c.in_ok-extend_from_slice-3.ensures.items
