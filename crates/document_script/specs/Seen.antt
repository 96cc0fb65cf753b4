-- Defines the tokens of the code, as specifications see them.
use Rattle.std.specs.Prelude.{◌≡◌, List, [], ◌∷◌, Some, None, Ok, Err}
use Rattle.std.specs.declared.option.Option.{Option}
use Rattle.std.specs.declared.result.Result.{Result}
use Rattle.document_script.specs.declared.token.Token.{Token as Read}
use Rattle.document_script.specs.declared.token.Token.TheVariants.{Word, Sign, Str, Long, Semicolon, Bad}
use Rattle.document_script.specs.Tokens.{Token}
use Rattle.document_script.specs.Tokens.Token.{word, sign, string, long, semicolon, bad}

-- a token without the place of its bytes
abbrev pub seen : Read → Token
seen (Word w) = word w.now
seen (Sign op) = sign op
seen (Str t) = string t
seen Long = long
seen Semicolon = semicolon
seen Bad = bad

-- a token that was cut off, if there was one, and the others behind it
abbrev pub behind : Option Read → List Token → List Token
behind None others = []
behind (Some t) others = seen t ∷ others

-- the token in front is taken, or there is none at the end of the line; out of memory takes nothing
abbrev pub TakesToken : {E : Type 0} → Result (Option Read) E → List Token → List Token → Type 0
TakesToken (Ok None) before after = (before ≡ []) × (after ≡ [])
TakesToken (Ok (Some t)) before after = before ≡ seen t ∷ after
TakesToken (Err e) before after = after ≡ before
