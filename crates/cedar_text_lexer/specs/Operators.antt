-- Operators and brackets, by their bytes.
use Rattle.std.specs.Prelude.{ℕ, List, Option, Some, None, if◌then◌else◌, codes, bytes_eq}
use Rattle.cedar_text_lexer.specs.declared.tokens.Kind.{Kind}
use Rattle.cedar_text_lexer.specs.declared.tokens.Kind.TheVariants as kind

-- the operator or bracket that these bytes are, if any
abbrev pub operator_kind : List ℕ → Option Kind
operator_kind w =
    if bytes_eq w (codes "@") then Some kind.At else (
    if bytes_eq w (codes "(") then Some kind.OpenParen else (
    if bytes_eq w (codes ")") then Some kind.CloseParen else (
    if bytes_eq w (codes "[") then Some kind.OpenBracket else (
    if bytes_eq w (codes "]") then Some kind.CloseBracket else (
    if bytes_eq w (codes "{") then Some kind.OpenBrace else (
    if bytes_eq w (codes "}") then Some kind.CloseBrace else (
    if bytes_eq w (codes ",") then Some kind.Comma else (
    if bytes_eq w (codes ";") then Some kind.Semicolon else (
    if bytes_eq w (codes ":") then Some kind.Colon else (
    if bytes_eq w (codes "::") then Some kind.Colons else (
    if bytes_eq w (codes ".") then Some kind.Dot else (
    if bytes_eq w (codes "||") then Some kind.Or else (
    if bytes_eq w (codes "&&") then Some kind.And else (
    if bytes_eq w (codes "==") then Some kind.Equal else (
    if bytes_eq w (codes "!=") then Some kind.NotEqual else (
    if bytes_eq w (codes "<") then Some kind.Less else (
    if bytes_eq w (codes "<=") then Some kind.LessEqual else (
    if bytes_eq w (codes ">") then Some kind.Greater else (
    if bytes_eq w (codes ">=") then Some kind.GreaterEqual else (
    if bytes_eq w (codes "!") then Some kind.Bang else (
    if bytes_eq w (codes "+") then Some kind.Plus else (
    if bytes_eq w (codes "-") then Some kind.Minus else (
    if bytes_eq w (codes "*") then Some kind.Star else
    None)))))))))))))))))))))))
