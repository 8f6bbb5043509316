-- What is left to write, one part after another.
use Rattle.std.proofs.Common.{◌≡◌, ℕ, Bool, false, List, [], ◌∷◌, ◌++◌, map, flat_map, codes, append_assoc, append-nil}
use Rattle.cedar_model.specs.Terms.{Text, Term, Terms, one_term, Fields, one_field}
use Rattle.cedar_model.specs.World.{Slots}
use Rattle.cedar_names.specs.Texts.{separator}
use Rattle.std.specs.Rc.{rc_str_bytes}
use Rattle.std.specs.declared.alloc.Global.{Global}
use Rattle.std.specs.declared.rc.RcStr.{RcStr}
use Rattle.cedar_layers.specs.Policies.{PolicyView}
use Rattle.cedar_text_printer.specs.Policies as policies
use Rattle.cedar_text_printer.specs.Policies.{annotation_text, policy_text, policies_text}
use Rattle.cedar_text_printer.specs.Names.{key_text}
use Rattle.cedar_text_printer.specs.Texts.{written, written_parts, written_fields}

-- one part of a list
pub parts_left : (s : Slots) (first : Bool) (t : Term) (ts rest : Terms) (done total : List ℕ) → ts ≡ one_term t rest
    → done ++ written_parts s first ts ≡ total → (done ++ (separator first ++ written s t)) ++ written_parts s false rest ≡ total
parts_left s first t ts rest done total is whole = rw (append_assoc done, append_assoc (separator first)) (rw is at whole)

-- the same under keys
pub fields_left : (s : Slots) (first : Bool) (k : Text) (t : Term) (fs rest : Fields) (done total : List ℕ) → fs ≡ one_field k t rest
    → done ++ written_fields s first fs ≡ total
    → (done ++ (separator first ++ (key_text k ++ (codes ": " ++ written s t)))) ++ written_fields s false rest ≡ total
fields_left s first k t fs rest done total is whole = simp append_assoc (rw is at whole)

-- annotations, each on its line
abbrev pub annotations_text : List (RcStr Global × RcStr Global) → List ℕ
annotations_text es = flat_map annotation_text (map (λ e. (rc_str_bytes e.0, rc_str_bytes e.1)) es)

pub annotations_left : (es rest : List (RcStr Global × RcStr Global)) (k v : RcStr Global) (done total : List ℕ) → es ≡ (k, v) ∷ rest
    → done ++ annotations_text es ≡ total → (done ++ annotation_text (rc_str_bytes k, rc_str_bytes v)) ++ annotations_text rest ≡ total
annotations_left es rest k v done total is whole = rw (append_assoc done) (rw is at whole)

pub policies_left_over : (first : Bool) (p : PolicyView) (ps rest : List PolicyView) (done total : List ℕ) → ps ≡ p ∷ rest
    → done ++ policies_text first ps ≡ total → (done ++ (policies.separator first ++ policy_text p)) ++ policies_text false rest ≡ total
policies_left_over first p ps rest done total is whole = rw (append_assoc done, append_assoc (policies.separator first)) (rw is at whole)

pub annotations_end : (es : List (RcStr Global × RcStr Global)) (done total : List ℕ) → es ≡ [] → done ++ annotations_text es ≡ total → done ≡ total
annotations_end es done total is whole = rw append-nil at (rw is at whole)

pub policies_end : (first : Bool) (ps : List PolicyView) (done total : List ℕ) → ps ≡ [] → done ++ policies_text first ps ≡ total → done ≡ total
policies_end first ps done total is whole = rw append-nil at (rw is at whole)
