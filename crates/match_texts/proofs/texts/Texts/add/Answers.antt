use Rattle.std.proofs.Common.{◌≡◌, ◌∙◌, ◌∷◌, ap, subst}
use Rattle.std.proofs.lemmas.Result.{on_ok_weaker}
use Rattle.match_index.specs.Pairs.{Same, Test, test_of}
use Rattle.match_index.specs.Keys.{key_of, test_at}
use Rattle.match_index.proofs.Finds.{the-test}
use Rattle.match_texts.proofs.texts.Texts.add.Goals as goal

pub returns : goal.returns
returns c =
    let k = c.key_of-key.ensures ∙ ap key_of c.operand.ensures in
    let t : test_at c.op.result c.key_of-key.result.now ≡ test_of c.args.constraint.now = the-test c.args.constraint.now c.op.result c.key_of-key.result.now c.requires.kind c.op.ensures.whole c.op.ensures.op k in
    on_ok_weaker c.put.result (λ h. subst (λ (x : Test). Same c.put.new.self ((x, c.args.id) ∷ c.args.self.now)) t (rw (c.self.view_is) at h)) c.put.ensures
