-- What has begun of an expression.
use Rattle.std.specs.Prelude.{ℕ, List}
use Rattle.esc_sexp.specs.declared.sexp.Sexp.{Sexp}

-- a list that is open: the place of its parenthesis, and the expressions in it so far
pub record OpenList : Type 0 where
  pub place : ℕ
  pub items : List Sexp

-- the token or the comment that is unfinished; of a token its place and its text so far
pub data Token : Type 0 where
  between : Token
  comment : Token
  bare : ℕ → List ℕ → Token
  barred : ℕ → List ℕ → Token
