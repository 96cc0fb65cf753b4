-- Lemmas on a text that is put into a sink piece by piece.
use Rattle.std.proofs.Common.{◌≡◌, ℕ, zero, suc, ◌+◌, ◌-◌, ◌<◌, ◌≤◌, Bool, true, false, cond, List, [], ◌∷◌, ◌++◌, length, map, filter, nat_lt, take, drop, get_or, refl, sym, ap, subst, ◌∙◌, arith, append_assoc, append-nil}
use Rattle.std.specs.List.{flat_map}
use Rattle.base_tree.specs.Tree.{Topology, links_of, servers_of}
use Rattle.filter_text.specs.NoticeText.{joined, later}
use Rattle.std.specs.Prelude.{codes, ◌==◌}
use Rattle.filter_text.specs.declared.command.Command.{Command}
use Rattle.document_format.specs.CommandText.{command_text}
use Rattle.net_model.specs.Parts.{ClientParts, NetParts}
use Rattle.net_model.specs.declared.turn.Turn.{Turn}
use Rattle.document_format.specs.Edges.{edges_to, edges_at, edges_of}
use Rattle.document_format.specs.DocumentText.{barrier_lines, client_line, document_text, edge_line, ended, first_lines, is_idle, lines_before, phase_lines, schedule_lines, script_lines, step_lines, tree_lines, trees_lines, turn_line}
use Rattle.document_format.specs.Writing.{edge_text, server_text}
use Rattle.std.proofs.Math.Seq.{take-length}

pub ended-append : (xs ys : List (List ℕ)) → flat_map ended (xs ++ ys) ≡ flat_map ended xs ++ flat_map ended ys
ended-append [] ys = refl
ended-append (x ∷ xs) ys = ap (λ l. ended x ++ l) (ended-append xs ys) ∙ sym (append_assoc (ended x) (flat_map ended xs) (flat_map ended ys))

pub ended-map : {X : Type 0} (f : X → List ℕ) (xs : List X) → flat_map (λ x. ended (f x)) xs ≡ flat_map ended (map f xs)
ended-map f [] = refl
ended-map f (x ∷ xs) = ap (λ l. ended (f x) ++ l) (ended-map f xs)

pub ended-flat : {X : Type 0} (f : X → List (List ℕ)) (xs : List X) → flat_map (λ x. flat_map ended (f x)) xs ≡ flat_map ended (flat_map f xs)
ended-flat f [] = refl
ended-flat f (x ∷ xs) = ap (λ l. flat_map ended (f x) ++ l) (ended-flat f xs) ∙ sym (ended-append (f x) (flat_map f xs))

edges_text : (a : ℕ) (bs : List ℕ) → flat_map (edge_text a) bs ≡ flat_map ended (map edge_line (edges_to a bs))
edges_text a [] = refl
edges_text a (b ∷ bs) = go (nat_lt a b) (edges_text a bs)
  where
    go : (p : Bool) → flat_map (edge_text a) bs ≡ flat_map ended (map edge_line (edges_to a bs))
        → flat_map ended (map edge_line (map (λ x. (a, x)) (cond p (b ∷ []) []))) ++ flat_map (edge_text a) bs ≡ flat_map ended (map edge_line (map (λ x. (a, x)) (cond p (b ∷ filter (nat_lt a) bs) (filter (nat_lt a) bs))))
    go true k = ap (λ l. l ++ flat_map (edge_text a) bs) (append-nil (ended (edge_line (a, b)))) ∙ ap (λ l. ended (edge_line (a, b)) ++ l) k
    go false k = k

map-append : (xs ys : List (ℕ × ℕ)) → map edge_line (xs ++ ys) ≡ map edge_line xs ++ map edge_line ys
map-append [] ys = refl
map-append (x ∷ xs) ys = ap (λ l. edge_line x ∷ l) (map-append xs ys)

servers_text : (tree : Topology) (cs : List ℕ) → flat_map (server_text tree) cs ≡ flat_map ended (map edge_line (flat_map (edges_at tree) cs))
servers_text tree [] = refl
servers_text tree (a ∷ cs) =
    ap (λ l. l ++ flat_map (server_text tree) cs) (edges_text a (links_of tree a))
    ∙ ap (λ l. flat_map ended (map edge_line (edges_at tree a)) ++ l) (servers_text tree cs)
    ∙ sym (ended-append (map edge_line (edges_at tree a)) (map edge_line (flat_map (edges_at tree) cs)))
    ∙ ap (flat_map ended) (sym (map-append (edges_at tree a) (flat_map (edges_at tree) cs)))

pub tree_text : (tree : Topology) → flat_map (server_text tree) (servers_of tree) ≡ flat_map ended (tree_lines tree)
unfolding edges_of
tree_text tree = servers_text tree (servers_of tree)

take_rest : {X : Type 0} (x : X) (xs : List X) → take (length (x ∷ xs) - 1) xs ≡ xs
take_rest x xs = let e : length (x ∷ xs) - 1 ≡ length xs = omega arith in ap (λ n. take n xs) e ∙ take-length xs

pub first_part : {A : Type 0} (text : A → List ℕ) (xs : List A) (d : A) → 0 < length xs → text (get_or xs 0 d) ++ later text (take (length xs - 1) (drop 1 xs)) ≡ joined text xs
first_part text [] d l = absurd (omega arith)
first_part text (x ∷ xs) d l = ap (λ z. text x ++ later text z) (take_rest x xs)

pub no_part : {A : Type 0} (text : A → List ℕ) (xs : List A) → length xs < 1 → [] ≡ joined text xs
no_part text [] l = refl
no_part text (x ∷ xs) l = absurd (omega arith)

pub schedule_text : (clients : List ClientParts) (ts : List (ℕ × Turn)) → (b : Bool) → b ≡ false → b ≡ (length ts == 0) → codes "schedule\n" ++ flat_map (λ turn. ended (turn_line clients turn.1)) ts ≡ flat_map ended (schedule_lines clients ts)
schedule_text clients [] b n e = absurd (let f : false ≡ true = sym n ∙ e in cc)
schedule_text clients (t ∷ ts) b n e = ap (λ z. codes "schedule\n" ++ z) (ended-map (λ turn. turn_line clients turn.1) (t ∷ ts))

pub first_trees : (ts : List (ℕ × Topology)) (d : ℕ × Topology) → 1 ≤ length ts
    → flat_map (server_text (get_or ts 0 d).1) (servers_of (get_or ts 0 d).1) ++ flat_map (λ tree. flat_map ended (phase_lines tree)) (take (length ts - 1) (drop 1 ts)) ≡ flat_map ended (trees_lines ts)
first_trees [] d l = absurd (omega arith)
first_trees (t ∷ ts) d l =
    ap (λ z. flat_map (server_text t.1) (servers_of t.1) ++ flat_map (λ tree. flat_map ended (phase_lines tree)) z) (take_rest t ts)
    ∙ ap (λ z. z ++ flat_map (λ tree. flat_map ended (phase_lines tree)) ts) (tree_text t.1)
    ∙ ap (λ z. flat_map ended (tree_lines t.1) ++ z) (ended-flat phase_lines ts)
    ∙ sym (ended-append (tree_lines t.1) (flat_map phase_lines ts))

pub no_trees : (ts : List (ℕ × Topology)) → length ts < 1 → [] ≡ flat_map ended (trees_lines ts)
unfolding edges_of
no_trees [] l = refl
no_trees (t ∷ ts) l = absurd (omega arith)

step_suc : (phase : ℕ) (script : List (ℕ × Command)) (i barriers : ℕ) (step : ℕ × Command) → i < length script → step ≡ get_or script i step
    → flat_map ended (step_lines phase (drop i script) barriers) ≡ (flat_map ended (barrier_lines (step.0 - phase)) ++ ended (command_text step.1)) ++ flat_map ended (step_lines step.0 (drop (suc i) script) barriers)
step_suc phase [] i barriers step l e = absurd (omega arith)
step_suc phase (s ∷ script) zero barriers step l e =
    ap (λ z. flat_map ended (step_lines phase (z ∷ script) barriers)) (sym e)
    ∙ ended-append (barrier_lines (step.0 - phase)) (command_text step.1 ∷ step_lines step.0 script barriers)
    ∙ sym (append_assoc (flat_map ended (barrier_lines (step.0 - phase))) (ended (command_text step.1)) (flat_map ended (step_lines step.0 script barriers)))
step_suc phase (s ∷ script) (suc i) barriers step l e = step_suc phase script i barriers step (omega arith) e

pub step_next : (phase : ℕ) (script : List (ℕ × Command)) (i barriers : ℕ) (step : ℕ × Command) → i < length script → step ≡ get_or script i step
    → flat_map ended (step_lines phase (drop i script) barriers) ≡ (flat_map ended (barrier_lines (step.0 - phase)) ++ ended (command_text step.1)) ++ flat_map ended (step_lines step.0 (drop (i + 1) script) barriers)
step_next phase script i barriers step l e =
    let n : suc i ≡ i + 1 = omega arith in
    step_suc phase script i barriers step l e ∙ ap (λ k. (flat_map ended (barrier_lines (step.0 - phase)) ++ ended (command_text step.1)) ++ flat_map ended (step_lines step.0 (drop k script) barriers)) n

pub step_last : (phase : ℕ) (script : List (ℕ × Command)) (i barriers : ℕ) → length script ≤ i → flat_map ended (step_lines phase (drop i script) barriers) ≡ flat_map ended (barrier_lines (barriers - phase))
step_last phase [] zero barriers l = refl
step_last phase [] (suc i) barriers l = refl
step_last phase (s ∷ script) zero barriers l = absurd (omega arith)
step_last phase (s ∷ script) (suc i) barriers l = step_last phase script i barriers (omega arith)

pub script_text : (client : ClientParts) → is_idle client ≡ false → ended (codes "script " ++ client.name) ++ flat_map ended (step_lines 0 client.script client.barriers) ≡ flat_map ended (script_lines client)
script_text client e = rw e refl

pub idle_text : (client : ClientParts) → is_idle client ≡ true → [] ≡ flat_map ended (script_lines client)
idle_text client e = rw e refl

pub whole_text : (net : NetParts) → (((flat_map ended (first_lines net) ++ flat_map ended (trees_lines net.trees)) ++ flat_map (λ client. ended (client_line client)) net.clients)
    ++ flat_map (λ client. flat_map ended (script_lines client)) net.clients) ++ flat_map ended (schedule_lines net.clients net.schedule) ≡ document_text net
whole_text net =
    ap (λ z. (((flat_map ended (first_lines net) ++ flat_map ended (trees_lines net.trees)) ++ z) ++ flat_map (λ client. flat_map ended (script_lines client)) net.clients) ++ flat_map ended (schedule_lines net.clients net.schedule)) (ended-map client_line net.clients)
    ∙ ap (λ z. (((flat_map ended (first_lines net) ++ flat_map ended (trees_lines net.trees)) ++ flat_map ended (map client_line net.clients)) ++ z) ++ flat_map ended (schedule_lines net.clients net.schedule)) (ended-flat script_lines net.clients)
    ∙ ap (λ z. z ++ flat_map ended (schedule_lines net.clients net.schedule)) (regroup (flat_map ended (first_lines net)) (flat_map ended (trees_lines net.trees)) (flat_map ended (map client_line net.clients)) (flat_map ended (flat_map script_lines net.clients))
    ∙ ap (λ z. flat_map ended (first_lines net) ++ (flat_map ended (trees_lines net.trees) ++ z)) (sym (ended-append (map client_line net.clients) (flat_map script_lines net.clients)))
    ∙ ap (λ z. flat_map ended (first_lines net) ++ z) (sym (ended-append (trees_lines net.trees) (map client_line net.clients ++ flat_map script_lines net.clients)))
    ∙ sym (ended-append (first_lines net) (trees_lines net.trees ++ (map client_line net.clients ++ flat_map script_lines net.clients))))
    ∙ sym (ended-append (lines_before net) (schedule_lines net.clients net.schedule))
  where
    regroup : (a b c d : List ℕ) → ((a ++ b) ++ c) ++ d ≡ a ++ (b ++ (c ++ d))
    regroup a b c d = append_assoc (a ++ b) c d ∙ append_assoc a b (c ++ d)
