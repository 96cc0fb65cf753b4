use Rattle.std.proofs.Common.{suc, length, sym, ap, subst, ◌∙◌, arith}
use Rattle.base.specs.Sets.{Has}
use Rattle.net_model.specs.Parts.{NetParts}
use Rattle.net_model.specs.Nets.{clients_of}
use Rattle.thread_cell.specs.declared.held.Root.{Root}
use Rattle.thread_cell.specs.Turns.{HasCommand}
use Rattle.thread_cell.specs.Together.{Sight, HasNoCommand}
use Rattle.thread_cell.proofs.Leftover.{none-left, place-more}
use Rattle.thread_cell.proofs.cell.Cell.take_commands.Goals.{then-branch, else-branch}
use Rattle.thread_cell.proofs.cell.Cell.take_commands.Goals as goal
use Rattle.law_machine.proofs.Lists.{prefix-trans}

pub loop-place-preserved : goal.loop-place-preserved
loop-place-preserved g c = record {
  root = c.take_home.ensures.root ∙ c.loop-place.invariant.root;
  grown = prefix-trans _ _ _ c.loop-place.invariant.grown c.take_home.ensures.grown;
  idle = elim c.if-branch.branch [
    | then-branch w ↦ λ e. (let no-way = sym w.made-is ∙ e in cc)
    | else-branch w ↦ λ e. (
        let i = c.in_ok-take_home.ensures.idle w.if-branch.false in
        let b = c.loop-place.invariant.idle (sym w.made-is ∙ e) in (
          i.0 ∙ b.0,
          λ k lt h q. place-more (λ k. Has (suc k) (clients_of c.args.self.now.root.net.value c.args.self.now.root.server) → HasCommand c.args.self.now.held.core (suc k) c.args.self.now.root.phase → ⊥) c.loop-place.place b.1
              (λ h q. i.1 (subst (λ (r : Root). Has (suc c.loop-place.place) (clients_of r.net.value r.server)) (sym c.loop-place.invariant.root) h)
              (subst (λ (s : Sight). HasCommand s.core (suc c.loop-place.place) s.root.phase) (sym (i.0 ∙ b.0)) q))
              k (omega (arith, lt)) h q,
        ))
  ];
}

pub returns-clause-idle : goal.returns-clause-idle
returns-clause-idle g c e =
    let b = c.loop-place.invariant.idle e in
    let n = ap (λ (z : NetParts). length z.clients) (c.behind-self.view_is ∙ c.net.ensures) in (
      b.0,
      subst (λ (s : Sight). HasNoCommand s.core s.root.phase) (sym b.0)
          (none-left c.args.self.now.root.net.value c.args.self.now.root c.args.self.now.journal c.args.self.now.held c.loop-place.place c.lemma_kept.ensures (omega (arith, n, c.len-place-end.ensures, c.loop-place-test.false)) b.1),
    )

pub returns-in_err-take_home-clause-grown : goal.returns-in_err-take_home-clause-grown
returns-in_err-take_home-clause-grown g c = prefix-trans _ _ _ c.loop-place.invariant.grown c.take_home.ensures.grown
