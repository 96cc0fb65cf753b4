-- What is printed goes by the loads of the net's links alone.
use Rattle.std.proofs.Common.{◌≡◌, ℕ, ◌+◌, ◌≤◌, ◌&&◌, Bool, true, false, nat_lt, List, [], ◌∷◌, ◌++◌, inl, inr, filter, refl, sym, ap, subst, ◌∙◌, arith}
use Rattle.std.specs.Prelude.{codes}
use Rattle.std.specs.List.{flat_map}
use Rattle.base.specs.Sets.{Has}
use Rattle.base.proofs.Roots.{filter-Has}
use Rattle.base_tree.proofs.Servers.{server-in}
use Rattle.net_model.specs.Parts.{NetParts}
use Rattle.net_model.specs.Nets.{first_tree, servers_in}
use Rattle.net_model.specs.Sound.{IsSound}
use Rattle.net_model.proofs.SoundNets.{few-servers}
use Rattle.output_traffic.specs.declared.loads.Direction.{Direction}
use Rattle.output_traffic.specs.Links.{is_link, links_from, links_in}
use Rattle.output_traffic.specs.Text.{Loads, client_nodes, direction_arrow, direction_line, direction_of, in_all, link_printed, server_node, total_line, traffic_printed}
use Rattle.base.proofs.Sets.{has-flat_map, has-map}
use Rattle.std.proofs.lemmas.Bool.{and_parts}
use Rattle.base.proofs.Numbers.{sum_over-same}

-- the ends of a link are servers
pub link-ends : (net : NetParts) → IsSound net → (link : ℕ × ℕ) → Has link (links_in net) → Has link.0 (servers_in net) × Has link.1 (servers_in net) × (is_link net.trees link.0 link.1 ≡ true)
link-ends net sound link h =
    let r = has-flat_map (links_from net.trees (servers_in net)) (servers_in net) link h in
    let a = r.0 in
    let m = has-map (λ b. (a, b)) (filter (λ b. nat_lt a b && is_link net.trees a b) (servers_in net)) link r.2 in
    let f = filter-Has (λ b. nat_lt a b && is_link net.trees a b) m.0 (servers_in net) m.1 in
    let e : link ≡ (a, m.0) = m.2 in
    subst (λ z. Has z.0 (servers_in net) × Has z.1 (servers_in net) × (is_link net.trees z.0 z.1 ≡ true)) (sym e) (r.1, f.0, (and_parts (nat_lt a m.0) (is_link net.trees a m.0) f.1).1)

pub low : (net : NetParts) → IsSound net → (server : ℕ) → Has server (servers_in net) → server ≤ 64
low net sound server h = let i = server-in (first_tree net.trees).count server h in omega (arith, i.1, few-servers net.trees sound.trees)

flat-same : {X : Type 0} (f g : X → List ℕ) (xs : List X) → ((x : X) → Has x xs → f x ≡ g x) → flat_map f xs ≡ flat_map g xs
flat-same f g [] e = refl
flat-same f g (x ∷ xs) e = ap (λ z. z ++ flat_map f xs) (e x (inl refl)) ∙ ap (λ z. g x ++ z) (flat-same f g xs (λ y h. e y (inr h)))

-- two loads agree on numbers of servers
pub record Agree (x y : Loads) : Type 0 where
  pub notices : (a b : ℕ) → a ≤ 64 → b ≤ 64 → x.notices a b ≡ y.notices a b
  pub flood : (a b : ℕ) → a ≤ 64 → b ≤ 64 → x.flood a b ≡ y.flood a b
  pub messages : (a b : ℕ) → a ≤ 64 → b ≤ 64 → x.messages a b ≡ y.messages a b

module _ (net : NetParts) (sound : IsSound net) (x y : Loads) (agree : Agree x y) where
  one-direction : (a b : ℕ) → a ≤ 64 → b ≤ 64 → direction_of x a b ≡ direction_of y a b
  one-direction a b la lb = λ i. record { from = a; to = b; notices = agree.notices a b la lb i; flood = agree.flood a b la lb i; messages = agree.messages a b la lb i }

  both : (f : Direction → List ℕ) (link : ℕ × ℕ) → Has link (links_in net)
      → f (direction_of x link.0 link.1) ++ f (direction_of x link.1 link.0) ≡ f (direction_of y link.0 link.1) ++ f (direction_of y link.1 link.0)
  both f link h =
      let e = link-ends net sound link h in
      let la = low net sound link.0 e.0 in
      let lb = low net sound link.1 e.1 in
      ap (λ z. f z ++ f (direction_of x link.1 link.0)) (one-direction link.0 link.1 la lb) ∙ ap (λ z. f (direction_of y link.0 link.1) ++ f z) (one-direction link.1 link.0 lb la)

  sums : (f g : ℕ → ℕ → ℕ) → ((a b : ℕ) → a ≤ 64 → b ≤ 64 → f a b ≡ g a b) → in_all f (links_in net) ≡ in_all g (links_in net)
  sums f g e = sum_over-same (λ link. f link.0 link.1 + f link.1 link.0) (λ link. g link.0 link.1 + g link.1 link.0) (links_in net)
      (λ link h. (let i = link-ends net sound link h in let la = low net sound link.0 i.0 in let lb = low net sound link.1 i.1 in omega (arith, e link.0 link.1 la lb, e link.1 link.0 lb la)))

  pub same-printed : (graph : Bool) → traffic_printed graph net x ≡ traffic_printed graph net y
  same-printed true =
      ap (λ z. codes "digraph traffic {\n" ++ flat_map server_node (servers_in net) ++ client_nodes 1 net.clients ++ z ++ codes "}\n")
      (flat-same (link_printed true x) (link_printed true y) (links_in net) (λ link h. both direction_arrow link h))
  same-printed false =
      ap (λ z. z ++ total_line (in_all x.notices (links_in net)) (in_all x.flood (links_in net)) (in_all x.messages (links_in net)))
      (flat-same (link_printed false x) (link_printed false y) (links_in net) (λ link h. both direction_line link h))
      ∙ (ap (λ z. flat_map (link_printed false y) (links_in net) ++ total_line z (in_all x.flood (links_in net)) (in_all x.messages (links_in net))) (sums x.notices y.notices agree.notices)
      ∙ (ap (λ z. flat_map (link_printed false y) (links_in net) ++ total_line (in_all y.notices (links_in net)) z (in_all x.messages (links_in net))) (sums x.flood y.flood agree.flood)
      ∙ ap (λ z. flat_map (link_printed false y) (links_in net) ++ total_line (in_all y.notices (links_in net)) (in_all y.flood (links_in net)) z) (sums x.messages y.messages agree.messages)))
