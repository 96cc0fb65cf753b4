use Rattle.std.proofs.Common.{◌≡◌, ℕ, Some, Vec, Global, map, slice_get, subst}
use Rattle.base.specs.Sets.{Has}
use Rattle.base_tree.specs.Tree.{links_of}
use Rattle.server_spec.specs.declared.control.HeldLink.{HeldLink}
use Rattle.server_control.specs.Held.{NetHeld, held_in}
use Rattle.server_flow.specs.Rows.{RepresentsHeld}
use Rattle.server_spec.proofs.Answering.{server-step, server-long}
use Rattle.server_flow.proofs.answer.all_links.Goals as goal
use Rattle.server_flow.proofs.answer.all_links.Goals.{else-loop-at-test, then-loop-at-test+in_ok-links+in_ok-push+else-at-at-end}

pub loop-at-preserved : goal.loop-at-preserved
loop-at-preserved c =
    let P : ℕ → Vec NetHeld Global → Type 0 = λ at links. map (λ (link : HeldLink). link.link) (held_in links.items) ≡ links_of c.args.tree.now at in
    let Q : ℕ → Vec NetHeld Global → Type 0 = λ at links. (link : NetHeld) → Has link links.items → RepresentsHeld c.args.tables.now c.args.table.now c.args.offers.now at link in
    record {
      long = server-long c.loop-at.held.items c.push.new.self.items c.in_ok-links.links c.loop-at.at c.loop-at.auto.at c.in_ok-push.ensures.items c.loop-at.invariant.long;
      links = server-step P c.loop-at.held.items c.push.new.self.items c.in_ok-links.links c.loop-at.at c.loop-at.auto.at c.in_ok-push.ensures.items c.loop-at.invariant.long c.in_ok-links.ensures.links c.loop-at.invariant.links;
      held = server-step Q c.loop-at.held.items c.push.new.self.items c.in_ok-links.links c.loop-at.at c.loop-at.auto.at c.in_ok-push.ensures.items c.loop-at.invariant.long c.in_ok-links.ensures.held c.loop-at.invariant.held;
    }

pub returns-clause-links : goal.returns-clause-links
returns-clause-links c =
    let P : ℕ → Vec NetHeld Global → Type 0 = λ at links. map (λ (link : HeldLink). link.link) (held_in links.items) ≡ links_of c.args.tree.now at in
    elim c.loop-at-test.branch [
      | else-loop-at-test w ↦ λ place links e. c.loop-at.invariant.links place links (subst (λ v. slice_get v.items place ≡ Some links) w.held-is e)
      | then-loop-at-test+in_ok-links+in_ok-push+else-at-at-end w ↦ λ place links e.
          server-step P c.loop-at.held.items w.push.new.self.items w.in_ok-links.links c.loop-at.at c.loop-at.auto.at w.in_ok-push.ensures.items c.loop-at.invariant.long w.in_ok-links.ensures.links c.loop-at.invariant.links place links (subst (λ v. slice_get v.items place ≡ Some links) w.held-is e)
    ]

pub returns-clause-held : goal.returns-clause-held
returns-clause-held c =
    let Q : ℕ → Vec NetHeld Global → Type 0 = λ at links. (link : NetHeld) → Has link links.items → RepresentsHeld c.args.tables.now c.args.table.now c.args.offers.now at link in
    elim c.loop-at-test.branch [
      | else-loop-at-test w ↦ λ place links e. c.loop-at.invariant.held place links (subst (λ v. slice_get v.items place ≡ Some links) w.held-is e)
      | then-loop-at-test+in_ok-links+in_ok-push+else-at-at-end w ↦ λ place links e.
          server-step Q c.loop-at.held.items w.push.new.self.items w.in_ok-links.links c.loop-at.at c.loop-at.auto.at w.in_ok-push.ensures.items c.loop-at.invariant.long w.in_ok-links.ensures.held c.loop-at.invariant.held place links (subst (λ v. slice_get v.items place ≡ Some links) w.held-is e)
    ]
