-- The definition of a line, at some texts.
use Rattle.std.specs.Prelude.{◌≡◌, ◌≢◌, codes, ℕ, List, [], ◌∷◌, Some}
use Rattle.json.specs.Token.{Token, begin_array, end_array, string}
use Rattle.json.specs.Lex.{tokens}
use Rattle.serde_json.specs.Data.{unsigned}
use Rattle.serde_json.specs.Read.{number_of}

-- the tokens of an array of two strings
abbrev pub pair_tokens : List ℕ → List ℕ → List Token
pair_tokens token answer = begin_array ∷ string token ∷ string answer ∷ end_array ∷ []

abbrev pub AtRows : Type 0
AtRows = record {
  plain : tokens (codes "[\"s/0\",\"red\"]") ≡ pair_tokens (codes "s/0") (codes "red");
  spaced : tokens (codes " [ \"s/0\" , \"\\u00e9\" ] ") ≡ pair_tokens (codes "s/0") (195 ∷ 169 ∷ []);
  pair : tokens (codes "[\"a\",\"\\ud83d\\ude00\"]") ≡ pair_tokens (codes "a") (240 ∷ 159 ∷ 152 ∷ 128 ∷ []);
  lone : tokens (codes "[\"a\",\"\\ud83d\"]") ≡ Token.begin_array ∷ Token.string (codes "a") ∷ Token.bad ∷ [];
  trailing : tokens (codes "[\"a\",\"b\",]") ≡ Token.begin_array ∷ Token.string (codes "a") ∷ Token.string (codes "b") ∷ Token.bad ∷ [];
  digits : number_of (codes "7") ≡ Some (unsigned 7);
  leading_zero : tokens (codes "[01]") ≡ Token.begin_array ∷ Token.bad ∷ [];
  exponent : number_of (codes "1e0") ≢ Some (unsigned 1);
  point : number_of (codes "1.0") ≢ Some (unsigned 1);
  zero : number_of (codes "-0") ≢ Some (unsigned 0);
}
