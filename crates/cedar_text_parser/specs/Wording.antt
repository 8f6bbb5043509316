-- What tokens stand for, by their numbers: words, texts, numbers and names.
use Rattle.std.specs.Prelude.{◌≡◌, ℕ, zero, suc, ◌+◌, ◌-◌, ◌<◌, ◌≤◌, true, List, [], ◌∷◌, ◌++◌, length, Option, Some}
use Rattle.std.specs.Prelude.{None, codes, bytes_eq, if◌then◌else◌}
use Rattle.std.specs.Rc.{rc_str_bytes}
use Rattle.std.specs.declared.alloc.Global.{Global}
use Rattle.std.specs.declared.rc.RcStr.{RcStr}
use Rattle.cedar_text_lexer.specs.Kinds.{is_identifier}
use Rattle.cedar_text_lexer.specs.Values.{word_of, inside_of, IsTextOf}
use Rattle.cedar_text_lexer.specs.declared.tokens.Kind.{Kind}
use Rattle.cedar_text_lexer.specs.declared.tokens.Kind.TheVariants as kind
use Rattle.cedar_text_lexer.specs.Sequence.{token_at, kind_at, start_at, end_at}
use Rattle.cedar_names.specs.Names.{name_text, name_loc, uid_type, uid_name, uid_loc, type_name_of}
use Rattle.cedar_names.specs.declared.names.EntityUID.{EntityUID}
use Rattle.cedar_names.specs.declared.names.Loc.{Loc}
use Rattle.cedar_names.specs.declared.names.Name.{Name}
use Rattle.cedar_names.specs.declared.names.SlotId.{SlotId}
use Rattle.cedar_names.specs.declared.names.SlotId.TheVariants as slots
use Rattle.cedar_names.specs.declared.names.Var.{Var}
use Rattle.cedar_names.specs.declared.names.Var.TheVariants as variables
use Rattle.cedar_names.specs.declared.operators.BinaryOp.{BinaryOp}
use Rattle.cedar_names.specs.declared.operators.BinaryOp.TheVariants as binary
use Rattle.cedar_text_parser.specs.Sources.{Tokenized}
use Rattle.cedar_text_parser.specs.declared.words.MethodKind.{MethodKind}
use Rattle.cedar_text_parser.specs.declared.words.MethodKind.TheVariants.{Operator, IsEmpty, Function}

-- from byte s up to, but not including, byte e
abbrev pub place : ℕ → ℕ → Option Loc
place s e = Some (record { start = s; end = e })

-- ---- words

-- the variable that a token of this kind is
abbrev pub variable_of : Kind → Option Var
variable_of kind.Principal = Some variables.Principal
variable_of kind.Action = Some variables.Action
variable_of kind.Resource = Some variables.Resource
variable_of kind.Context = Some variables.Context
variable_of _ = None

-- the slot that it is
abbrev pub slot_of : Kind → Option SlotId
slot_of kind.PrincipalSlot = Some slots.Principal
slot_of kind.ResourceSlot = Some slots.Resource
slot_of _ = None

-- what the method of this name is: an operator, or an extension function
abbrev pub method_of : List ℕ → MethodKind
method_of w =
    if bytes_eq w (codes "contains") then Operator binary.Contains else (
    if bytes_eq w (codes "containsAll") then Operator binary.ContainsAll else (
    if bytes_eq w (codes "containsAny") then Operator binary.ContainsAny else (
    if bytes_eq w (codes "getTag") then Operator binary.GetTag else (
    if bytes_eq w (codes "hasTag") then Operator binary.HasTag else (
    if bytes_eq w (codes "isEmpty") then IsEmpty else
    Function)))))

-- the bytes of the token of this number
abbrev pub word_at : Tokenized → ℕ → List ℕ
word_at source i = word_of source.text (token_at source.tokens i)

-- token i names a method that is an operator on one argument
abbrev pub IsOperatorAt : Tokenized → ℕ → Type 0
IsOperatorAt source i = (op : BinaryOp) × (method_of (word_at source i) ≡ Operator op)

-- token i names the method that takes no argument
abbrev pub IsEmptyAt : Tokenized → ℕ → Type 0
IsEmptyAt source i = method_of (word_at source i) ≡ IsEmpty

-- ---- texts

-- token i is a text in quotes, which stands for these bytes
pub record IsTextAt (source : Tokenized) (i : ℕ) (value : List ℕ) : Type 0 where
  pub within : i < length source.tokens
  pub is : kind_at source.tokens i ≡ kind.Text
  pub stands_for : IsTextOf (inside_of (word_at source i)) value

-- token i names the attribute or the key of these bytes: an identifier its own, a text in quotes those it stands for
pub data IsKeyAt (source : Tokenized) (i : ℕ) : List ℕ → Type 0 where
  bare : i < length source.tokens → is_identifier (kind_at source.tokens i) ≡ true → IsKeyAt source i (word_at source i)
  quoted : {value : List ℕ} → IsTextAt source i value → IsKeyAt source i value

-- tokens i up to k name these attributes, each second token one
pub data AreKeysAt (source : Tokenized) (i : ℕ) : ℕ → List (RcStr Global) → Type 0 where
  one_key : (w : RcStr Global) → IsKeyAt source i (rc_str_bytes w) → AreKeysAt source i (i + 1) (w ∷ [])
  key_behind : {k : ℕ} {ws : List (RcStr Global)} (w : RcStr Global) → AreKeysAt source i k ws →
      IsKeyAt source (k + 1) (rc_str_bytes w) → AreKeysAt source i (k + 1 + 1) (ws ++ w ∷ [])

-- ---- names

-- the bytes of n tokens from number i on, one behind the other: what stands between them is left out
abbrev pub spelled : Tokenized → ℕ → ℕ → List ℕ
spelled source i zero = []
spelled source i (suc n) = spelled source i n ++ word_at source (i + n)

-- tokens i up to, but not including, k write this name, where it stands
pub record IsNameAt (source : Tokenized) (i k : ℕ) (f : Name) : Type 0 where
  pub order : i < k
  pub within : k ≤ length source.tokens
  pub spelling : name_text f ≡ spelled source i (k - i)
  pub loc : name_loc f ≡ place (start_at source.tokens i) (end_at source.tokens (k - 1))

-- tokens i up to the one before k, which is `::`, write the entity's type, and token k its id; it stands here
pub record IsEntityAt (source : Tokenized) (i k s e : ℕ) (u : EntityUID) : Type 0 where
  pub type_name : IsNameAt source i (k - 1) (type_name_of (uid_type u))
  pub id : IsTextAt source k (uid_name u).id
  pub loc : uid_loc u ≡ place s e
