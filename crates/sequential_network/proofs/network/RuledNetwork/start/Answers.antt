use Rattle.std.proofs.Common.{◌≤◌, refl, sym, ap, subst, ◌∙◌}
use Rattle.net_model.specs.Parts.{NetParts}
use Rattle.net_model.specs.Nets.{first_tree, topology_at}
use Rattle.net_model.proofs.SoundNets.{few-servers, count-at}
use Rattle.net_journal.specs.Journal.{JournalParts}
use Rattle.sequential_network.specs.Links.{messages_at}
use Rattle.sequential_network.specs.Seen.{AreClients}
use Rattle.sequential_network.proofs.network.RuledNetwork.start.Goals as goal

pub places-requires : goal.places-requires
places-requires g c =
    let is = c.servers-count.ensures.value ∙ ap (λ z. z.count) (c.tree.ensures ∙ ap (λ (n : NetParts). topology_at n 0) c.net-net.ensures) ∙ count-at c.args.tables.now c.requires 0 in
    λ k. ((refl, tt), (c.requires, (is, subst (λ n. n ≤ 64) (sym is) (few-servers c.args.tables.now.trees c.requires.trees))))

pub all_clients-requires-clause-count : goal.all_clients-requires-clause-count
all_clients-requires-clause-count g c =
    let is = c.servers-count.ensures.value ∙ ap (λ z. z.count) (c.tree.ensures ∙ ap (λ (n : NetParts). topology_at n 0) c.net-net.ensures) ∙ count-at c.args.tables.now c.requires 0 in
    (is ∙ ap (λ (n : NetParts). (first_tree n.trees).count) (sym c.net-net.ensures), subst (λ n. n ≤ 64) (sym is) (few-servers c.args.tables.now.trees c.requires.trees))

pub invariant_of-result : goal.invariant_of-result
invariant_of-result g c =
    let is = c.servers-count.ensures.value ∙ ap (λ z. z.count) (c.tree.ensures ∙ ap (λ (n : NetParts). topology_at n 0) c.net-net.ensures) ∙ count-at c.args.tables.now c.requires 0 in (
      c.lemma_laws.ensures.starts c.args.tables.now c.requires
          (record { run = c.args.tables.now; cores = c.in_ok-places.field-0.items; messages = messages_at c.in_ok-new.field-0; journal = c.new-2.result.entries })
          refl (ap (λ (z : JournalParts). z.entries) c.new-2.ensures) c.in_ok-new.ensures (c.in_ok-places.ensures.all ∙ is) c.in_ok-places.ensures.first,
      subst (λ (n : NetParts). AreClients n c.in_ok-all_clients.field-0.items) c.net-net.ensures c.in_ok-all_clients.ensures,
      ap (λ (z : JournalParts). z.kept) c.new-2.ensures ∙ c.keeps.ensures,
    )
