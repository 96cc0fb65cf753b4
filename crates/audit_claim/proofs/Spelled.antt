-- Lines of a trace as they are written, and what they are read as.
use Rattle.std.proofs.Common.{◌≡◌, ℕ, zero, suc, ◌+◌, ◌/◌, ◌%◌, ◌==◌, ◌<◌, ◌≤◌, ◌^◌, Bool, true, false, ◌&&◌, List, [], ◌∷◌, ◌++◌, length, get_or, Some, refl, ap, ◌∙◌, arith, nat_le, nat_lt}
use Rattle.std.specs.Prelude.{codes, nat_eq, slice_get, if◌then◌else◌}
use Rattle.std.specs.Fmt.{decimal, digit_glyph, digits, digits_onto}
use Rattle.std.specs.List.{list_all, position_or_len}
use Rattle.std.specs.Option.{option_map}
use Rattle.std.specs.Str.{bytes_eq}
use Rattle.std.proofs.lemmas.Bool.Decides.{nat_tests}
use Rattle.std.proofs.lemmas.Fmt.{decimal_digit, decimal_is_IsNumeral, decimal_nonempty, first_decimal, length-decimal-le}
use Rattle.std.proofs.lemmas.Grind.{common_steps}
use Rattle.std.proofs.lemmas.Option.{same_Some}
use Rattle.document_script.proofs.IntLaws.{digits_are, numeral_number}
use Rattle.document_reader.specs.Lines.{before_first, words}
use Rattle.net_model.specs.declared.turn.Turn.{Turn}
use Rattle.net_model.specs.declared.turn.Turn.TheVariants as turns
use Rattle.net_model.specs.Parts.{ClientParts, NetParts}
use Rattle.audit_claim.specs.Output.{at_space, output_lines, parted}
use Rattle.audit_claim.specs.Trace.{begins_trace, decimal_number, entry_turn, act_turn, command_turn, take_turn, trace_line, is_decimal, is_trace_head, is_server, are_joined, leads, lives_as}
use Rattle.audit_claim.specs.declared.line.TraceLine.TheVariants.{Entry, Message}
use Rattle.base.proofs.Lists.{bytes_eq-self}
use Rattle.std.proofs.lemmas.Bool.{and_parts}

-- Bytes above a newline, and above a space.

abbrev pub are_shown : List ℕ → Bool
are_shown bytes = list_all (nat_le 32) bytes

abbrev pub are_dense : List ℕ → Bool
are_dense bytes = list_all (nat_lt 32) bytes

not_newline : (b : ℕ) → nat_le 32 b ≡ true → nat_eq b 10 ≡ false
not_newline b e = grind (arith, nat_tests, common_steps)

not_space : (b : ℕ) → nat_lt 32 b ≡ true → nat_eq b 32 ≡ false
not_space b e = grind (arith, nat_tests, common_steps)

shown_dense : (b : ℕ) → nat_lt 32 b ≡ true → nat_le 32 b ≡ true
shown_dense b e = grind (arith, nat_tests)

pub dense-shown : (w : List ℕ) → are_dense w ≡ true → are_shown w ≡ true
dense-shown [] e = refl
dense-shown (b ∷ w) e = let h = and_parts (nat_lt 32 b) (are_dense w) e in rw (shown_dense b h.0, dense-shown w h.1) refl

-- a line of an output
pub output-line : (line more : List ℕ) → are_shown line ≡ true → output_lines (line ++ 10 ∷ more) ≡ line ∷ output_lines more
unfolding output_lines
output-line [] more e = refl
output-line (b ∷ line) more e =
    let h = and_parts (nat_le 32 b) (are_shown line) e in
    rw (not_newline b h.0) (ap (before_first b) (output-line line more h.1))

-- a word and what stands behind its space
pub word-apart : (w rest : List ℕ) → are_dense w ≡ true → at_space (w ++ 32 ∷ rest) ≡ Some (w, rest)
unfolding parted
word-apart [] rest e = refl
word-apart (b ∷ w) rest e =
    let h = and_parts (nat_lt 32 b) (are_dense w) e in
    rw (not_space b h.0) (ap (option_map (λ (p : List ℕ × List ℕ). (b ∷ p.0, p.1))) (word-apart w rest h.1))

-- Numbers.

leads-by : (ds : List ℕ) → 0 < length ds → (48 < get_or ds 0 0) → leads ds ≡ true
leads-by [] s h = absurd (omega (arith, s))
leads-by (d ∷ []) s h = refl
leads-by (d ∷ e ∷ ds) s h = rw (above d h) refl
  where
    above : (b : ℕ) → 48 < b → nat_eq b 48 ≡ false
    above b h = grind (arith, nat_tests, common_steps)

decimal-leads : (n : ℕ) → n < 2 ^ 64 → leads (decimal n) ≡ true
decimal-leads zero l = ap leads (decimal_digit 0 (omega arith))
decimal-leads (suc n) l = leads-by (decimal (suc n)) (decimal_nonempty (suc n) l) (first_decimal (suc n) (omega arith) l)

glyph-dense : (d : ℕ) → nat_lt 32 (digit_glyph false d) ≡ true
glyph-dense d = go (nat_lt d 10)
  where
    go : (b : Bool) → nat_lt 32 (if b then 48 + d else 87 + d) ≡ true
    go true = grind (arith, nat_tests)
    go false = grind (arith, nat_tests)

onto-dense : (k n : ℕ) (acc : List ℕ) → are_dense acc ≡ true → are_dense (digits_onto k 10 false n acc) ≡ true
onto-dense zero n acc e = e
onto-dense (suc k) n acc e = go (n / 10 == 0) (onto-dense k (n / 10) (digit_glyph false (n % 10) ∷ acc) (rw (glyph-dense (n % 10)) e))
  where
    go : (b : Bool) → are_dense (digits_onto k 10 false (n / 10) (digit_glyph false (n % 10) ∷ acc)) ≡ true
        → are_dense (if b then digit_glyph false (n % 10) ∷ acc else digits_onto k 10 false (n / 10) (digit_glyph false (n % 10) ∷ acc)) ≡ true
    go true more = rw (glyph-dense (n % 10)) e
    go false more = more

pub decimal-dense : (n : ℕ) → are_dense (decimal n) ≡ true
unfolding digits
decimal-dense n = onto-dense 64 n [] refl

pub decimal-is : (n : ℕ) → n < 2 ^ 64 → is_decimal (decimal n) ≡ true
unfolding is_decimal
decimal-is n l = rw (decimal-leads n l) (digits_are (decimal n) (decimal_is_IsNumeral n l).0)

pub decimal-again : (n : ℕ) → n < 10 ^ 19 → decimal_number (decimal n) ≡ Some n
unfolding decimal_number
decimal-again n l =
    let small : n < 2 ^ 64 = omega (arith, l) in
    let d = decimal_is_IsNumeral n small in
    let few : length (decimal n) ≤ 19 = length-decimal-le 19 n (omega arith) l small in
    let some : nat_le (length (decimal n)) 19 ≡ true = grind (arith, nat_tests) in
    rw (decimal-leads n small, some) (numeral_number (decimal n) d.0.1 ∙ ap Some d.1)

-- Lines of deliveries.

pub client-first : (rest : List ℕ) → begins_trace (codes "client " ++ rest) ≡ false
unfolding begins_trace words
client-first rest = refl

pub refused-first : (rest : List ℕ) → begins_trace (codes "refused " ++ rest) ≡ false
unfolding begins_trace words
refused-first rest = refl

pub deliver-first : (rest : List ℕ) → begins_trace (codes "deliver " ++ rest) ≡ false
unfolding begins_trace words
deliver-first rest = refl

-- Lines of a trace.

pub trace-first : (rest : List ℕ) → begins_trace (codes "trace " ++ rest) ≡ true
unfolding begins_trace words
trace-first rest = refl

pub trace-counted : (n : ℕ) → n < 2 ^ 64 → is_trace_head (codes "trace " ++ decimal n) ≡ true
unfolding is_trace_head parted
trace-counted n l = decimal-is n l

pub message-read : (net : NetParts) (rest : List ℕ) → trace_line net (codes "out " ++ rest) ≡ Some Message
unfolding trace_line parted
message-read net rest = refl

entry-line : (net : NetParts) (rest : List ℕ) → trace_line net (codes "entry " ++ rest) ≡ option_map Entry (entry_turn net rest)
unfolding trace_line parted
entry-line net rest = refl

entry-parts : (net : NetParts) (stamp server : ℕ) (act : List ℕ) → stamp < 2 ^ 62 → server < 10 ^ 19 → is_server net server ≡ true
    → entry_turn net (decimal stamp ++ 32 ∷ (decimal server ++ 32 ∷ act)) ≡ act_turn net server act
unfolding entry_turn
entry-parts net stamp server act low small there =
    let less : nat_lt stamp (2 ^ 62) ≡ true = grind (arith, nat_tests) in
    rw (
      word-apart (decimal stamp) (decimal server ++ 32 ∷ act) (decimal-dense stamp),
      decimal-again stamp (omega (arith, low)),
      less,
      word-apart (decimal server) act (decimal-dense server),
      decimal-again server small,
      there,
    ) refl

pub entry-read : (net : NetParts) (stamp server : ℕ) (act : List ℕ) (turn : Turn) → stamp < 2 ^ 62 → server < 10 ^ 19 → is_server net server ≡ true → act_turn net server act ≡ Some turn
    → trace_line net (codes "entry " ++ (decimal stamp ++ 32 ∷ (decimal server ++ 32 ∷ act))) ≡ Some (Entry turn)
entry-read net stamp server act turn low small there e =
    entry-line net (decimal stamp ++ 32 ∷ (decimal server ++ 32 ∷ act)) ∙ ap (option_map Entry) (entry-parts net stamp server act low small there ∙ e)

-- Acts.

pub version-read : (net : NetParts) (server : ℕ) → act_turn net server (codes "version") ≡ Some (turns.TableUpdate server)
unfolding act_turn
version-read net server = refl

command-act : (net : NetParts) (server : ℕ) (name : List ℕ) → act_turn net server (codes "command " ++ name) ≡ command_turn net server name
unfolding act_turn parted
command-act net server name = refl

take-act : (net : NetParts) (server : ℕ) (word : List ℕ) → act_turn net server (codes "take " ++ word) ≡ take_turn net server word
unfolding act_turn parted
take-act net server word = refl

taken-by : (net : NetParts) (server from : ℕ) → from < 10 ^ 19 → is_server net from ≡ true → are_joined net server from ≡ true → take_turn net server (decimal from) ≡ Some (turns.Receive server from)
unfolding take_turn
taken-by net server from small there near = rw (decimal-again from small, there, near) refl

pub take-read : (net : NetParts) (server from : ℕ) → from < 10 ^ 19 → is_server net from ≡ true → are_joined net server from ≡ true → act_turn net server (codes "take " ++ decimal from) ≡ Some (turns.Receive server from)
take-read net server from small there near = take-act net server (decimal from) ∙ taken-by net server from small there near

-- names that differ from each other
abbrev pub AreApart : List ClientParts → Type 0
AreApart [] = Unit {0}
AreApart (c ∷ cs) = ((k : ℕ) (client : ClientParts) → slice_get cs k ≡ Some client → bytes_eq c.name client.name ≡ false) × AreApart cs

lives : (c : ClientParts) (server : ℕ) (name : List ℕ) → c.home ≡ server → c.name ≡ name → lives_as server name c ≡ true
lives c server name e f = rw (e, f, bytes_eq-self name, same server) refl
  where
    same : (n : ℕ) → nat_eq n n ≡ true
    same n = grind (arith, nat_tests, common_steps)

lives-not : (c : ClientParts) (server : ℕ) (name : List ℕ) → bytes_eq c.name name ≡ false → lives_as server name c ≡ false
lives-not c server name e = rw e (never (nat_eq c.home server))
  where
    never : (b : Bool) → (b && false) ≡ false
    never true = refl
    never false = refl

first-place : (server : ℕ) (cs : List ClientParts) (k : ℕ) (client : ClientParts) → AreApart cs → slice_get cs k ≡ Some client → client.home ≡ server
    → position_or_len (lives_as server client.name) cs ≡ k
first-place server [] k client apart at home = absurd cc
first-place server (c ∷ cs) zero client apart at home =
    let is-it : c ≡ client = same_Some c client at in
    rw (lives c server client.name (ap (λ (z : ClientParts). z.home) is-it ∙ home) (ap (λ (z : ClientParts). z.name) is-it)) refl
first-place server (c ∷ cs) (suc k) client apart at home =
    let next : 1 + k ≡ suc k = omega arith in
    rw (lives-not c server client.name (apart.0 k client at), first-place server cs k client apart.1 at home) next

within : (cs : List ClientParts) (k : ℕ) (client : ClientParts) → slice_get cs k ≡ Some client → k < length cs
within [] k client e = absurd cc
within (c ∷ cs) zero client e = omega arith
within (c ∷ cs) (suc k) client e = omega (arith, within cs k client e)

commanded : (net : NetParts) (server k : ℕ) (client : ClientParts) → AreApart net.clients → slice_get net.clients k ≡ Some client → client.home ≡ server
    → command_turn net server client.name ≡ Some (turns.Command (suc k))
unfolding command_turn
commanded net server k client apart at home =
    let less : k < length net.clients = within net.clients k client at in
    let there : nat_lt k (length net.clients) ≡ true = grind (arith, nat_tests) in
    let next : k + 1 ≡ suc k = omega arith in
    rw (first-place server net.clients k client apart at home, there) (ap (λ z. Some (turns.Command z)) next)

pub command-read : (net : NetParts) (server k : ℕ) (client : ClientParts) → AreApart net.clients → slice_get net.clients k ≡ Some client → client.home ≡ server
    → act_turn net server (codes "command " ++ client.name) ≡ Some (turns.Command (suc k))
command-read net server k client apart at home = command-act net server client.name ∙ commanded net server k client apart at home
