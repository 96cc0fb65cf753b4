-- A sound net names few filters and advertisements, and publishes no more than it may.
use Rattle.std.proofs.Common.{◌≡◌, ℕ, suc, ◌+◌, ◌≤◌, Bool, true, false, cond, not, List, [], ◌∷◌, length, refl, ◌∙◌, length-append, arith}
use Rattle.std.specs.List.{flat_map}
use Rattle.base.specs.Sets.{IsRising, put_in, set_of}
use Rattle.base.specs.Numbers.{sum_over, count}
use Rattle.base.proofs.Sets.{rising-union}
use Rattle.filter_types.specs.Before.{list_before}
use Rattle.filter_covering.specs.Laws.{sub_laws}
use Rattle.law_routing.specs.Clients.{is_publish}
use Rattle.net_model.specs.Real.{real}
use Rattle.filter_text.specs.declared.command.Command.{Command}
use Rattle.filter_text.specs.declared.command.Command.TheVariants as commands
use Rattle.net_model.specs.Meaning.{command_of}
use Rattle.net_model.specs.Parts.{ClientParts}
use Rattle.net_model.specs.Sound.{publishes, controls}
use Rattle.net_tables.specs.Known.{publishes_after, published_by, script_publications, known_publications, filters_in, adverts_in, script_filters, script_adverts, known_filters, known_adverts}

module _ {T : Type 0} (before : T → T → Bool) where
  length_put : (x : T) (ys : List T) → length (put_in before x ys) ≤ suc (length ys)
  length_put x [] = omega arith
  length_put x (y ∷ ys) = go (before x y) (before y x) (length_put x ys)
    where
      go : (a b : Bool) → length (put_in before x ys) ≤ suc (length ys) → length (cond a (x ∷ y ∷ ys) (cond b (y ∷ put_in before x ys) (y ∷ ys))) ≤ suc (suc (length ys))
      go true b h = omega arith
      go false true h = omega (arith, h)
      go false false h = omega arith

  pub length_set : (xs : List T) → length (set_of before xs) ≤ length xs
  length_set [] = omega arith
  length_set (x ∷ xs) = omega (arith, length_put x (set_of before xs), length_set xs)

few_filters : (c : Command) → length (filters_in c) ≤ count (not (is_publish real (command_of c)))
few_filters (commands.Subscribe f) = omega arith
few_filters (commands.Unsubscribe f) = omega arith
few_filters (commands.Advertise a) = omega arith
few_filters (commands.Unadvertise a) = omega arith
few_filters (commands.Publish n) = omega arith

few_adverts : (c : Command) → length (adverts_in c) ≤ count (not (is_publish real (command_of c)))
few_adverts (commands.Subscribe f) = omega arith
few_adverts (commands.Unsubscribe f) = omega arith
few_adverts (commands.Advertise a) = omega arith
few_adverts (commands.Unadvertise a) = omega arith
few_adverts (commands.Publish n) = omega arith

-- lists of bounded length, one for each member
few_of_all : {S T : Type 0} (f : S → List T) (weight : S → ℕ) → ((s : S) → length (f s) ≤ weight s) → (ss : List S) → length (flat_map f ss) ≤ sum_over weight ss
few_of_all f weight h [] = omega arith
few_of_all f weight h (s ∷ ss) = omega (arith, length-append (f s) (flat_map f ss), h s, few_of_all f weight h ss)

few_named_filters : (clients : List ClientParts) → length (flat_map (λ client. script_filters client.script) clients) ≤ sum_over controls clients
few_named_filters clients = few_of_all (λ client. script_filters client.script) controls
    (λ client. few_of_all (λ step. filters_in step.1) (λ step. count (not (is_publish real (command_of step.1)))) (λ step. few_filters step.1) client.script) clients

few_named_adverts : (clients : List ClientParts) → length (flat_map (λ client. script_adverts client.script) clients) ≤ sum_over controls clients
few_named_adverts clients = few_of_all (λ client. script_adverts client.script) controls
    (λ client. few_of_all (λ step. adverts_in step.1) (λ step. count (not (is_publish real (command_of step.1)))) (λ step. few_adverts step.1) client.script) clients

pub known_filters_few : (clients : List ClientParts) → sum_over controls clients ≤ 4096 → length (known_filters clients) ≤ 4096
unfolding known_filters
known_filters_few clients l = omega (arith, length_set list_before (flat_map (λ client. script_filters client.script) clients), few_named_filters clients)

pub known_adverts_few : (clients : List ClientParts) → sum_over controls clients ≤ 4096 → length (known_adverts clients) ≤ 4096
unfolding known_adverts
known_adverts_few clients l = omega (arith, length_set list_before (flat_map (λ client. script_adverts client.script) clients), few_named_adverts clients)

pub known_filters_rise : (clients : List ClientParts) → IsRising list_before (known_filters clients)
unfolding known_filters
known_filters_rise clients = rising-union sub_laws (flat_map (λ client. script_filters client.script) clients) [] tt

pub known_adverts_rise : (clients : List ClientParts) → IsRising list_before (known_adverts clients)
unfolding known_adverts
known_adverts_rise clients = rising-union sub_laws (flat_map (λ client. script_adverts client.script) clients) [] tt

script_count : (client done : ℕ) (script : List (ℕ × Command)) → length (script_publications client done script) ≡ sum_over (λ step. count (is_publish real (command_of step.1))) script
script_count client done [] = refl
script_count client done (step ∷ steps) = length-append (published_by client done step.0 step.1) (script_publications client (publishes_after done step.1) steps)
    ∙ go step.1 (script_count client (publishes_after done step.1) steps)
  where
    go : (c : Command) → length (script_publications client (publishes_after done c) steps) ≡ sum_over (λ s. count (is_publish real (command_of s.1))) steps
        → length (published_by client done step.0 c) + length (script_publications client (publishes_after done c) steps)
        ≡ count (is_publish real (command_of c)) + sum_over (λ s. count (is_publish real (command_of s.1))) steps
    go (commands.Subscribe f) e = omega (arith, e)
    go (commands.Unsubscribe f) e = omega (arith, e)
    go (commands.Advertise a) e = omega (arith, e)
    go (commands.Unadvertise a) e = omega (arith, e)
    go (commands.Publish n) e = omega (arith, e)

pub publications_count : (number : ℕ) (clients : List ClientParts) → length (known_publications number clients) ≡ sum_over publishes clients
publications_count number [] = refl
publications_count number (client ∷ clients) = length-append (script_publications number 0 client.script) (known_publications (suc number) clients)
    ∙ omega (arith, script_count number 0 client.script, publications_count (suc number) clients)
