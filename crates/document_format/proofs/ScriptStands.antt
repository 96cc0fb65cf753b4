-- What stands after the canonical lines of scripts and of the schedule.
use Rattle.std.proofs.Common.{◌≡◌, ℕ, ◌+◌, ◌<◌, true, false, List, [], ◌∷◌, ◌++◌, length, refl, ◌∙◌, arith, Some, Ok}
use Rattle.std.specs.Prelude.{codes, nat_eq, nat_lt}
use Rattle.std.specs.Str.{bytes_eq}
use Rattle.std.specs.Fmt.{decimal}
use Rattle.std.specs.Option.{is_some}
use Rattle.std.proofs.lemmas.Grind.{common_steps}
use Rattle.filter_values.specs.Name.{IsName}
use Rattle.filter_text.specs.FilterText.{constraints_text}
use Rattle.filter_text.specs.NoticeText.{notice_text}
use Rattle.filter_text.specs.declared.command.Command.{Command}
use Rattle.filter_text.specs.declared.command.Command.TheVariants as commands
use Rattle.filter_text.specs.declared.semantics.Semantics.{Semantics}
use Rattle.document_script.specs.Tokens.{first_word, tokens, Token}
use Rattle.document_script.specs.Tokens.Token.{word}
use Rattle.document_script.specs.Form.{verb_named}
use Rattle.document_format.specs.CommandText.{command_text}
use Rattle.document_format.proofs.Cuts.{are_word_bytes, word_cut}
use Rattle.net_model.specs.declared.turn.Turn.{Turn}
use Rattle.net_model.specs.declared.turn.Turn.TheVariants as turns
use Rattle.document_reader.specs.Lines.{words}
use Rattle.document_reader.specs.Drawn.{Drawn, are_servers, are_neighbours, is_apart, is_server}
use Rattle.document_reader.specs.Drafts.{barriers_at, begun, changed_at, client_at, has_script, with_barrier, with_command}
use Rattle.document_reader.specs.Tally.{CommandCounts}
use Rattle.document_reader.specs.Commands.{command_of}
use Rattle.document_reader.specs.Rules.{barrier_rule, command_rule, command_turn, count_rule, schedule_rule, script_rule, take_turn, version_number, version_turn}
use Rattle.document_reader.specs.Places.{at_clients, at_schedule, at_token, line_rule, words_rule}
use Rattle.document_reader.specs.declared.draft.Draft.{Draft}
use Rattle.document_reader.specs.declared.version.Version.{Version}
use Rattle.document_reader.specs.declared.state.State.{State}
use Rattle.document_reader.specs.declared.state.Place.{Place}
use Rattle.document_reader.specs.declared.state.Place.TheVariants as at
use Rattle.document_format.proofs.WordLaws.{decimal_word, name_word, words_last, words_then, one_again, two_again, name_again}
use Rattle.document_format.proofs.Stands.{state, by_words, words_one, words_two, plain_word, to_clients, IsOpen}
use Rattle.document_format.proofs.Stands.IsOpen.{Edges, Clients, Scripts}

-- Scripts.

script_word : (s : State) (ws : List (List ℕ)) → at_clients s (codes "script") ws ≡ script_rule s (codes "script") ws
unfolding at_clients
script_word s ws = refl

script_token : (s : State) (line : List ℕ) (ws : List (List ℕ)) (rest : List Token) → tokens line ≡ word (codes "script") ∷ rest → at_token s line (codes "script") ws (first_word (tokens line)) ≡ script_rule s (codes "script") ws
unfolding at_token
script_token s line ws rest e = rw e refl

script_by : (p : Place) (v : Version) (sem : Semantics) (trees : Drawn) (clients : List Draft) (k : ℕ) (tally : CommandCounts) (n : ℕ) (name : List ℕ) (ws : List (List ℕ)) → IsOpen p → is_apart trees ≡ false
    → words_rule (state p v sem trees clients k tally []) n (codes "script " ++ name) (codes "script" ∷ ws) ≡ script_rule (state p v sem trees clients k tally []) (codes "script") ws
script_by at.Edges v sem trees clients k tally n name ws Edges a = to_clients (state at.Edges v sem trees clients k tally []) (codes "script") ws a refl refl ∙ script_word (state at.Edges v sem trees clients k tally []) ws
script_by at.Clients v sem trees clients k tally n name ws Clients a = script_word (state at.Clients v sem trees clients k tally []) ws
script_by at.Header v sem trees clients k tally n name ws o a = elim o [ ]
script_by at.Semantics v sem trees clients k tally n name ws o a = elim o [ ]
script_by at.Servers v sem trees clients k tally n name ws o a = elim o [ ]
script_by at.Schedule v sem trees clients k tally n name ws o a = elim o [ ]
script_by at.Scripts v sem trees clients k tally n name ws Scripts a = script_token (state at.Scripts v sem trees clients k tally []) (codes "script " ++ name) ws (tokens (32 ∷ name)) (word_cut 115 (codes "cript") (32 ∷ name) refl refl)

pub script_stands : (n : ℕ) (p : Place) (v : Version) (sem : Semantics) (trees : Drawn) (clients : List Draft) (client : ℕ) (tally : CommandCounts) (name : List ℕ) (k : ℕ) → IsOpen p → is_apart trees ≡ false
    → IsName name → client_at clients name ≡ Some k → has_script clients k ≡ false
    → line_rule (state p v sem trees clients client tally []) n (codes "script " ++ name) ≡ Ok (state at.Scripts v sem trees (changed_at k begun clients) k tally [])
unfolding script_rule
script_stands n p v sem trees clients client tally name k o a is there new =
    by_words (state p v sem trees clients client tally []) n (codes "script " ++ name) (codes "script" ∷ name ∷ []) (words_one 115 (codes "cript") name (plain_word 115 (codes "cript") refl) (name_word name is))
    ∙ script_by p v sem trees clients client tally n name (name ∷ []) o a
    ∙ rw (name_again name is, there, new) refl

barrier_token : (s : State) → at_token s (codes "barrier") (codes "barrier") [] (first_word (tokens (codes "barrier"))) ≡ barrier_rule s (codes "barrier") []
unfolding at_token
barrier_token s = rw (word_cut 98 (codes "arrier") [] refl tt) refl

pub barrier_stands : (n : ℕ) (v : Version) (sem : Semantics) (trees : Drawn) (clients : List Draft) (k : ℕ) (tally : CommandCounts) → barriers_at clients k < 4095
    → line_rule (state at.Scripts v sem trees clients k tally []) n (codes "barrier") ≡ Ok (state at.Scripts v sem trees (changed_at k with_barrier clients) k tally [])
unfolding barrier_rule
barrier_stands n v sem trees clients k tally few =
    let room : nat_lt (barriers_at clients k) 4095 ≡ true = grind (arith, common_steps) in
    by_words (state at.Scripts v sem trees clients k tally []) n (codes "barrier") (codes "barrier" ∷ []) (words_last (codes "barrier") (plain_word 98 (codes "arrier") refl))
    ∙ barrier_token (state at.Scripts v sem trees clients k tally [])
    ∙ rw room refl

-- Commands.

-- a first word of a command
pub record IsVerb (w : List ℕ) : Type 0 where
  pub named : is_some (verb_named w) ≡ true
  pub barrier : bytes_eq w (codes "barrier") ≡ false
  pub script : bytes_eq w (codes "script") ≡ false
  pub schedule : bytes_eq w (codes "schedule") ≡ false

verb_token : (s : State) (line w v : List ℕ) (ws : List (List ℕ)) (rest : List Token) → tokens line ≡ word v ∷ rest → IsVerb v → at_token s line w ws (first_word (tokens line)) ≡ command_rule s line
unfolding at_token
verb_token s line w v ws rest e is = rw e (rw (is.barrier, is.script, is.schedule, is.named) refl)

pub verb_line : (n : ℕ) (v : Version) (sem : Semantics) (trees : Drawn) (clients : List Draft) (k : ℕ) (tally : CommandCounts) (b : ℕ) (w text : List ℕ) → are_word_bytes (b ∷ w) ≡ true → nat_eq b 35 ≡ false → IsVerb (b ∷ w)
    → line_rule (state at.Scripts v sem trees clients k tally []) n ((b ∷ w) ++ 32 ∷ text) ≡ command_rule (state at.Scripts v sem trees clients k tally []) ((b ∷ w) ++ 32 ∷ text)
verb_line n v sem trees clients k tally b w text e c is =
    let s = state at.Scripts v sem trees clients k tally [] in
    by_words s n ((b ∷ w) ++ 32 ∷ text) ((b ∷ w) ∷ words text) (words_then (b ∷ w) text (plain_word b w e))
    ∙ rw c (verb_token s ((b ∷ w) ++ 32 ∷ text) (b ∷ w) (b ∷ w) (words text) (tokens (32 ∷ text)) (word_cut b w (32 ∷ text) e refl) is)

command_line : (n : ℕ) (v : Version) (sem : Semantics) (trees : Drawn) (clients : List Draft) (k : ℕ) (tally : CommandCounts) (c : Command)
    → line_rule (state at.Scripts v sem trees clients k tally []) n (command_text c) ≡ command_rule (state at.Scripts v sem trees clients k tally []) (command_text c)
unfolding command_text
command_line n v sem trees clients k tally (commands.Subscribe f) = verb_line n v sem trees clients k tally 115 (codes "ubscribe") (constraints_text f) refl refl (record { named = refl; barrier = refl; script = refl; schedule = refl })
command_line n v sem trees clients k tally (commands.Unsubscribe f) = verb_line n v sem trees clients k tally 117 (codes "nsubscribe") (constraints_text f) refl refl (record { named = refl; barrier = refl; script = refl; schedule = refl })
command_line n v sem trees clients k tally (commands.Advertise a) = verb_line n v sem trees clients k tally 97 (codes "dvertise") (constraints_text a) refl refl (record { named = refl; barrier = refl; script = refl; schedule = refl })
command_line n v sem trees clients k tally (commands.Unadvertise a) = verb_line n v sem trees clients k tally 117 (codes "nadvertise") (constraints_text a) refl refl (record { named = refl; barrier = refl; script = refl; schedule = refl })
command_line n v sem trees clients k tally (commands.Publish m) = verb_line n v sem trees clients k tally 112 (codes "ublish") (notice_text m) refl refl (record { named = refl; barrier = refl; script = refl; schedule = refl })

pub command_stands : (n : ℕ) (v : Version) (sem : Semantics) (trees : Drawn) (clients : List Draft) (k : ℕ) (tally more : CommandCounts) (c : Command)
    → command_of (version_number v) (command_text c) ≡ Ok c → count_rule tally c (length (command_text c)) trees.servers (length clients) ≡ Ok more
    → line_rule (state at.Scripts v sem trees clients k tally []) n (command_text c) ≡ Ok (state at.Scripts v sem trees (changed_at k (with_command c) clients) k more [])
unfolding command_rule
command_stands n v sem trees clients k tally more c is counts =
    command_line n v sem trees clients k tally c
    ∙ rw (is, counts) refl

-- The schedule.

schedule_word : (s : State) (ws : List (List ℕ)) → at_clients s (codes "schedule") ws ≡ schedule_rule s (codes "schedule") ws
unfolding at_clients
schedule_word s ws = refl

schedule_token : (s : State) → at_token s (codes "schedule") (codes "schedule") [] (first_word (tokens (codes "schedule"))) ≡ schedule_rule s (codes "schedule") []
unfolding at_token
schedule_token s = rw (word_cut 115 (codes "chedule") [] refl tt) refl

schedule_by : (p : Place) (v : Version) (sem : Semantics) (trees : Drawn) (clients : List Draft) (k : ℕ) (tally : CommandCounts) (n : ℕ) → IsOpen p → is_apart trees ≡ false
    → words_rule (state p v sem trees clients k tally []) n (codes "schedule") (codes "schedule" ∷ []) ≡ schedule_rule (state p v sem trees clients k tally []) (codes "schedule") []
schedule_by at.Edges v sem trees clients k tally n Edges a = to_clients (state at.Edges v sem trees clients k tally []) (codes "schedule") [] a refl refl ∙ schedule_word (state at.Edges v sem trees clients k tally []) []
schedule_by at.Clients v sem trees clients k tally n Clients a = schedule_word (state at.Clients v sem trees clients k tally []) []
schedule_by at.Header v sem trees clients k tally n o a = elim o [ ]
schedule_by at.Semantics v sem trees clients k tally n o a = elim o [ ]
schedule_by at.Servers v sem trees clients k tally n o a = elim o [ ]
schedule_by at.Schedule v sem trees clients k tally n o a = elim o [ ]
schedule_by at.Scripts v sem trees clients k tally n Scripts a = schedule_token (state at.Scripts v sem trees clients k tally [])

pub schedule_stands : (n : ℕ) (p : Place) (v : Version) (sem : Semantics) (trees : Drawn) (clients : List Draft) (k : ℕ) (tally : CommandCounts) → IsOpen p → is_apart trees ≡ false
    → line_rule (state p v sem trees clients k tally []) n (codes "schedule") ≡ Ok (state at.Schedule v sem trees clients k tally [])
unfolding schedule_rule
schedule_stands n p v sem trees clients k tally o a =
    by_words (state p v sem trees clients k tally []) n (codes "schedule") (codes "schedule" ∷ []) (words_last (codes "schedule") (plain_word 115 (codes "chedule") refl))
    ∙ schedule_by p v sem trees clients k tally n o a

-- Turns.

command_word : (s : State) (n : ℕ) (ws : List (List ℕ)) → at_schedule s n (codes "command") ws ≡ command_turn s n ws
unfolding at_schedule
command_word s n ws = refl

take_word : (s : State) (n : ℕ) (ws : List (List ℕ)) → at_schedule s n (codes "take") ws ≡ take_turn s n ws
unfolding at_schedule
take_word s n ws = refl

version_word : (s : State) (n : ℕ) (ws : List (List ℕ)) → at_schedule s n (codes "version") ws ≡ version_turn s n ws
unfolding at_schedule
version_word s n ws = refl

pub command_turn_stands : (n : ℕ) (v : Version) (sem : Semantics) (trees : Drawn) (clients : List Draft) (k : ℕ) (tally : CommandCounts) (before : List (ℕ × Turn)) (name : List ℕ) (place : ℕ) → IsName name → client_at clients name ≡ Some place
    → line_rule (state at.Schedule v sem trees clients k tally before) n (codes "command " ++ name) ≡ Ok (state at.Schedule v sem trees clients k tally (before ++ (n, turns.Command (place + 1)) ∷ []))
unfolding command_turn
command_turn_stands n v sem trees clients k tally before name place is there =
    by_words (state at.Schedule v sem trees clients k tally before) n (codes "command " ++ name) (codes "command" ∷ name ∷ []) (words_one 99 (codes "ommand") name (plain_word 99 (codes "ommand") refl) (name_word name is))
    ∙ command_word (state at.Schedule v sem trees clients k tally before) n (name ∷ [])
    ∙ rw (name_again name is, there) refl

pub take_turn_stands : (n : ℕ) (v : Version) (sem : Semantics) (trees : Drawn) (clients : List Draft) (k : ℕ) (tally : CommandCounts) (before : List (ℕ × Turn)) (a b : ℕ) → a < 65536 → b < 65536
    → are_servers trees.servers (a, b) ≡ true → are_neighbours trees (a, b) ≡ true
    → line_rule (state at.Schedule v sem trees clients k tally before) n (codes "take " ++ decimal a ++ 32 ∷ decimal b) ≡ Ok (state at.Schedule v sem trees clients k tally (before ++ (n, turns.Receive a b) ∷ []))
unfolding take_turn
take_turn_stands n v sem trees clients k tally before a b l m servers near =
    by_words (state at.Schedule v sem trees clients k tally before) n (codes "take " ++ decimal a ++ 32 ∷ decimal b) (codes "take" ∷ decimal a ∷ decimal b ∷ []) (words_two 116 (codes "ake") (decimal a) (decimal b) (plain_word 116 (codes "ake") refl) (decimal_word a l) (decimal_word b m))
    ∙ take_word (state at.Schedule v sem trees clients k tally before) n (decimal a ∷ decimal b ∷ [])
    ∙ rw (two_again a b l m, servers, near) refl

pub version_turn_stands : (n : ℕ) (v : Version) (sem : Semantics) (trees : Drawn) (clients : List Draft) (k : ℕ) (tally : CommandCounts) (before : List (ℕ × Turn)) (a : ℕ) → a < 65536 → is_server trees.servers a ≡ true
    → line_rule (state at.Schedule v sem trees clients k tally before) n (codes "version " ++ decimal a) ≡ Ok (state at.Schedule v sem trees clients k tally (before ++ (n, turns.TableUpdate a) ∷ []))
unfolding version_turn
version_turn_stands n v sem trees clients k tally before a l server =
    by_words (state at.Schedule v sem trees clients k tally before) n (codes "version " ++ decimal a) (codes "version" ∷ decimal a ∷ []) (words_one 118 (codes "ersion") (decimal a) (plain_word 118 (codes "ersion") refl) (decimal_word a l))
    ∙ version_word (state at.Schedule v sem trees clients k tally before) n (decimal a ∷ [])
    ∙ rw (one_again a l, server) refl
