-- Defines the lines of a generated document, each ended by a newline (10), made of the numbers drawn from a state on.
use Rattle.std.specs.Prelude.{ℕ, zero, suc, ◌+◌, ◌%◌, ◌==◌, Bool, true, false, List, [], ◌∷◌, ◌++◌, codes, decimal, if◌then◌else◌}
use Rattle.base.specs.Text.{labelled}
use Rattle.document_generate.specs.Draws.{draw, letter, after}

-- the texts at places from one on, so many, each made of the state that is left by the draws of those before it
unfoldable pub texts_drawn : (ℕ → ℕ → List ℕ) → (ℕ → ℕ) → ℕ → ℕ → ℕ → List ℕ
texts_drawn text draws zero place state = []
texts_drawn text draws (suc n) place state = text place state ++ texts_drawn text draws n (place + 1) (after (draws place) state)

-- of server place + 2: an edge to an earlier server, one draw
unfoldable pub edge_line : ℕ → ℕ → List ℕ
edge_line place state = codes "edge " ++ decimal (draw state (place + 1) + 1) ++ codes " " ++ decimal (place + 2) ++ codes "\n"

-- client place + 1: clients go round the servers, no draw
unfoldable pub client_line : ℕ → ℕ → List ℕ
client_line place state = codes "client c" ++ decimal (place + 1) ++ codes " " ++ decimal (place % 16 + 1) ++ codes "\n"

-- the kind, and an operator by its number, with its operand
unfoldable pub test_text : ℕ → ℕ → List ℕ
test_text operator operand =
    if operator == 0 then codes " int >= " ++ decimal operand
    else if operator == 1 then codes " int < " ++ decimal operand
    else if operator == 2 then codes " int = " ++ decimal operand
    else codes " int any"

-- a second constraint, where it is wanted
unfoldable pub prefix_text : Bool → ℕ → List ℕ
prefix_text true first = codes "; t str prefix \"" ++ first ∷ codes "\""
prefix_text false first = []

-- a subscription
unfoldable pub subscribe_text : ℕ → ℕ → ℕ → Bool → ℕ → List ℕ
subscribe_text attribute operator operand wanted first =
    labelled (codes "subscribe a") attribute ++ test_text operator operand ++ prefix_text wanted first ++ codes "\n"

-- five draws: the attribute, the operator, the operand, whether there is a second constraint, and its letter
unfoldable pub subscribe_line : ℕ → List ℕ
subscribe_line state =
    subscribe_text (draw state 8) (draw (after 1 state) 4) (draw (after 2 state) 100) (draw (after 3 state) 2 == 1) (letter (after 4 state))

-- an attribute of a publication
unfoldable pub attribute_text : ℕ → ℕ → List ℕ
attribute_text name value = codes "a" ++ decimal (name % 8) ++ codes " int " ++ decimal value ++ codes "; "

-- six draws: the first of three attributes that follow one another, their values, and two letters
unfoldable pub publish_line : ℕ → List ℕ
publish_line state =
    codes "publish " ++ attribute_text (draw state 8) (draw (after 1 state) 100)
    ++ attribute_text (draw state 8 + 1) (draw (after 2 state) 100) ++ attribute_text (draw state 8 + 2) (draw (after 3 state) 100)
    ++ codes "t str \"" ++ letter (after 4 state) ∷ letter (after 5 state) ∷ codes "\"\n"
