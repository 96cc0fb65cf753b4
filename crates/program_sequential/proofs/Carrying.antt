-- What entries put on links, told again turn by turn.
use Rattle.std.proofs.Common.{◌≡◌, ℕ, zero, suc, ◌+◌, ◌<◌, Bool, List, [], ◌∷◌, ◌++◌, inl, inr, length, map, take, get_or, append-nil, refl, sym, ap, subst, ◌∙◌}
use Rattle.std.proofs.lemmas.List.{take_more}
use Rattle.base.specs.Sets.{Has}
use Rattle.base_tree.proofs.Servers.{server-in}
use Rattle.law_phases.specs.Trees.{PhasedNetLaws}
use Rattle.law_phases.specs.Moments.{found_of}
use Rattle.net_model.specs.Real.{real}
use Rattle.filter_text.specs.declared.sent.Sent.{Sent}
use Rattle.net_model.specs.Parts.{NetParts, EntryParts}
use Rattle.net_model.specs.Meaning.{journal_of}
use Rattle.net_model.specs.Lists.{refused_ordinals}
use Rattle.net_model.specs.Nets.{home_of, of_clients, phased_net, clients_in}
use Rattle.net_turns.specs.Network.{NetworkParts, IsDrainedBy, IsLegal, refused_by}
use Rattle.net_turns.specs.Retold.{turn_of_entry}
use Rattle.net_turns.specs.Told.{told_of, told_from, told_by}
use Rattle.net_turns.specs.Turns.{IsTurn}
use Rattle.net_turns.proofs.Again.{IsRetoldTo, retold-more}
use Rattle.output_traffic.specs.declared.carried.Carried.{Carried}
use Rattle.output_traffic.specs.Tallied.{Carries}
use Rattle.output_traffic.specs.Told.{IsTold, told_from as run_told_from}
use Rattle.document_reader.specs.Net.{IsNetOf}
use Rattle.output_traffic.specs.Flood.{refused_of}
use Rattle.output_traffic.specs.Laws.{AsManyWhereOwed, NeverMore}
use Rattle.program_sequential.specs.declared.body.Body.TheVariants as bodies
use Rattle.program_sequential.specs.declared.words.Schedule.TheVariants.{Walk}
use Rattle.program_sequential.specs.Network.{run_of}
use Rattle.program_sequential.specs.Runs.{GoesBy, refused_in}
use Rattle.program_sequential.specs.Showing.{PrintedParts, printed_parts}
use Rattle.program_sequential.specs.Traffic.{IsTrafficOf, traffic_of}
use Rattle.program_sequential.proofs.Inboxes.{client-lives}
use Rattle.audit_verdict.proofs.Runs.{told-length}

-- so far a journal was made again, and what its entries put is counted
pub record IsCountedTo (count : ℕ) (net : NetParts) (journal : List EntryParts) (made : NetworkParts) (carried : Carried) : Type 0 where
  pub texts : List (List Sent)
  pub retold : IsRetoldTo count net journal made texts
  pub counted : Carries carried (take count journal) texts

pub counted-more : (net : NetParts) (journal : List EntryParts) (legal : IsLegal net journal) (i : ℕ) (d : EntryParts) (less : i < length journal) (made : Bool) (old new : NetworkParts) (before after : Carried) (last : List Sent)
    → IsCountedTo i net journal old before → IsTurn made (turn_of_entry (get_or journal i d)) old new
    → ((front : List EntryParts) (entry : EntryParts) → new.journal ≡ front ++ entry ∷ [] → last ≡ told_of new.net (found_of real (phased_net new.net) (journal_of new.journal) (length front)) entry)
    → ((entries : List EntryParts) (outs : List (List Sent)) → length entries ≡ length outs → Carries before entries outs → Carries after (entries ++ get_or journal i d ∷ []) (outs ++ last ∷ []))
    → IsCountedTo (i + 1) net journal new after
counted-more net journal legal i d less made old new before after last so turn tells adds =
    let long = ap length so.retold.told ∙ told-length net journal zero (take i journal) in
    record {
      texts = so.texts ++ last ∷ [];
      retold = retold-more net journal legal i d less made old new so.texts last (so.texts ++ last ∷ []) so.retold turn tells refl;
      counted = subst (λ z. Carries after z (so.texts ++ last ∷ [])) (sym (take_more journal i d less)) (adds (take i journal) so.texts (sym long) so.counted);
    }

-- the journal of a legal run is told by the texts of its messages
module _ (net : NetParts) (laws : PhasedNetLaws real (phased_net net)) (journal : List EntryParts) (legal : IsLegal net journal) where
  same-told : (n : ℕ) (entries : List EntryParts) → told_from net journal n entries ≡ run_told_from (run_of net laws journal legal) n entries
  same-told n [] = refl
  same-told n (entry ∷ entries) = ap (λ z. told_of net (found_of real (phased_net net) (journal_of journal) n) entry ∷ z) (same-told (suc n) entries)

  pub is-told : IsTold (run_of net laws journal legal) journal (told_by net journal)
  is-told = record { entries = refl; told = same-told zero journal }

map-same : {X Y : Type 0} (f g : X → Y) (xs : List X) → ((x : X) → Has x xs → f x ≡ g x) → map f xs ≡ map g xs
map-same f g [] e = refl
map-same f g (x ∷ xs) e = ap (λ z. z ∷ map f xs) (e x (inl refl)) ∙ ap (λ z. g x ∷ z) (map-same f g xs (λ y h. e y (inr h)))

-- in a run that took all commands the refused publishes are those of the scripts
pub all-refused : (net : NetParts) (journal : List EntryParts) → IsDrainedBy net journal → refused_in net journal ≡ of_clients net (refused_of net)
all-refused net journal drained =
    map-same (refused_by net journal) (refused_of net) (clients_in net)
    (λ client h. ap (refused_ordinals net client) (drained.taken (home_of net client) client (client-lives net client (server-in (length net.clients) client h))))

-- what is printed of a walk
pub traffic-of : (graph : Bool) (net : NetParts) (p : PrintedParts) (traffic rest : List ℕ) (journal : List EntryParts) → p ≡ printed_parts (bodies.Carried traffic) rest journal → rest ≡ [] → traffic ≡ traffic_of graph net journal
    → IsLegal net journal → IsDrainedBy net journal → GoesBy Walk net journal → NeverMore net journal (told_by net journal) → AsManyWhereOwed net journal (told_by net journal)
    → (input : List ℕ) → IsNetOf input net → IsTrafficOf graph input p.text p.journal
traffic-of graph net p traffic rest journal e none is legal drained goes never many input of =
    subst (λ (z : PrintedParts). IsTrafficOf graph input z.text z.journal) (sym e)
    (record {
      net = net;
      well_formed = of;
      legal = legal;
      drained = drained;
      goes_by = goes;
      printed = ap (λ z. traffic ++ z) none ∙ (append-nil traffic ∙ is);
      never_more = never;
      as_many = many;
    })
