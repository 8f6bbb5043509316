-- What each step makes.
use Rattle.std.proofs.Common.{◌≡◌, ℕ, ◌+◌, ◌<◌, List, [], ◌∷◌, ◌++◌, length, take, reverse, subst, sym, ap, ◌∙◌}
use Rattle.std.proofs.Common.{None, refl, arith, get_or}
use Rattle.std.specs.Rc.{rc_str_bytes}
use Rattle.std.specs.declared.alloc.Global.{Global}
use Rattle.std.specs.declared.rc.RcStr.{RcStr}
use Rattle.std.proofs.lemmas.List.{take_more, reverse-append, reverse-reverse, length-reverse}
use Rattle.cedar_text_lexer.specs.declared.errors.ReadError.{ReadError}
use Rattle.cedar_expressions.specs.Nodes.{Node, entries_in_order}
use Rattle.cedar_expressions.specs.Nodes as node
use Rattle.cedar_model.specs.Refusals.{first_repeated}
use Rattle.cedar_expressions.specs.Records.{keys_view}
use Rattle.cedar_expressions.specs.declared.expr.Expr.{Expr}
use Rattle.cedar_text_syntax.specs.Trees.{Tree, also, field, made, trees, gathered, left_below}
use Rattle.cedar_text_syntax.specs.declared.steps.Binary.{Binary}
use Rattle.cedar_text_syntax.specs.declared.steps.Bracketed.{Bracketed}
use Rattle.cedar_text_syntax.specs.declared.steps.Bracketed.TheVariants.{Record}
use Rattle.cedar_text_syntax.specs.declared.steps.Leaf.{Leaf}
use Rattle.cedar_text_syntax.specs.declared.steps.Step.{Step}
use Rattle.cedar_text_syntax.specs.declared.steps.Unary.{Unary}
use Rattle.cedar_text_syntax.specs.declared.steps.What.TheVariants as what
use Rattle.cedar_text_syntax.proofs.Making.{trees_push}
use Rattle.cedar_text_parser.specs.Building.{IsLeaf, IsUnary, IsBinary, IsBracketed, Are, one_more, is_whole, is_field}
use Rattle.cedar_text_parser.specs.Building.{is_leaf, is_unary, is_binary, is_conditional, is_bracketed, is_record}
use Rattle.cedar_text_parser.specs.Building.{AreParts, no_part, part_behind, AreFields, no_field, field_behind, Keeps, Puts}
use Rattle.cedar_text_parser.specs.Building.{puts}
use Rattle.cedar_text_parser.specs.Finished.{unkeyed, keyed, all_unkeyed, all_keyed}
use Rattle.cedar_text_parser.specs.Refusals.{keys_of, IsRefusedOn, by_tokens, by_key, IsKeyAgain, IsRecordRefused}
use Rattle.cedar_text_parser.specs.Refusals.{otherwise, twice}
use Rattle.cedar_text_parser.specs.Sources.{Tokenized}
use Rattle.cedar_text_parser.specs.Wording.{IsKeyAt}
use Rattle.cedar_text_parser.specs.declared.builder.Part.{Part}

-- ---- steps that take a part or some

pub leaf_kept : {source : Tokenized} {n : Node} {s e : ℕ} {xs ys : List Part} (l : Leaf) →
    IsLeaf source l s e n → Puts n s e xs ys → Keeps source (what.Leaf l) s e xs ys
leaf_kept l is (puts same loc) ts h = one_more (is_whole (is_leaf (rw same is) loc)) h

unary_on : {source : Tokenized} {n : Node} {y : Expr} {s e : ℕ} {xs ys : List Part} (u : Unary) →
    IsUnary source u y n → Puts n s e xs ys → (ts : List Tree) → Are source (unkeyed y ∷ xs) ts →
    Are source ys (made (what.Unary u) s e ts)
unary_on u is (puts same loc) _ (one_more (is_whole part) rest) =
    one_more (is_whole (is_unary part (rw same is) loc)) rest

pub unary_kept : {source : Tokenized} {n : Node} {y : Expr} {s e : ℕ} {xs ys zs : List Part}
    (u : Unary) → zs ≡ unkeyed y ∷ xs → IsUnary source u y n → Puts n s e xs ys →
    Keeps source (what.Unary u) s e zs ys
unary_kept {source} u popped is put ts h = unary_on u is put ts (subst (λ vs. Are source vs ts) popped h)

binary_on : {source : Tokenized} {n : Node} {y z : Expr} {s e : ℕ} {xs ys : List Part} (b : Binary) →
    IsBinary source b y z s e n → Puts n s e xs ys → (ts : List Tree) →
    Are source (unkeyed z ∷ unkeyed y ∷ xs) ts → Are source ys (made (what.Binary b) s e ts)
binary_on b is (puts same loc) _ (one_more (is_whole right) (one_more (is_whole left) rest)) =
    one_more (is_whole (is_binary left right (rw same is) loc)) rest

pub binary_kept : {source : Tokenized} {n : Node} {y z : Expr} {s e : ℕ} {xs ys zs : List Part}
    (b : Binary) → zs ≡ unkeyed z ∷ unkeyed y ∷ xs → IsBinary source b y z s e n → Puts n s e xs ys →
    Keeps source (what.Binary b) s e zs ys
binary_kept {source} b popped is put ts h = binary_on b is put ts (subst (λ vs. Are source vs ts) popped h)

conditional_on : {source : Tokenized} {n : Node} {c y z : Expr} {s e : ℕ} {xs ys : List Part} →
    n ≡ node.If c y z → Puts n s e xs ys → (ts : List Tree) →
    Are source (unkeyed z ∷ unkeyed y ∷ unkeyed c ∷ xs) ts → Are source ys (made what.If s e ts)
conditional_on is (puts same loc) _ (one_more (is_whole z) (one_more (is_whole y) (one_more (is_whole c) rest))) =
    one_more (is_whole (is_conditional c y z (same ∙ is) loc)) rest

pub conditional_kept : {source : Tokenized} {n : Node} {c y z : Expr} {s e : ℕ}
    {xs ys zs : List Part} → zs ≡ unkeyed z ∷ unkeyed y ∷ unkeyed c ∷ xs → n ≡ node.If c y z → Puts n s e xs ys →
    Keeps source what.If s e zs ys
conditional_kept {source} popped is put ts h =
    conditional_on is put ts (subst (λ vs. Are source vs ts) popped h)

field_on : {source : Tokenized} {i : ℕ} {key : RcStr Global} {y : Expr} {xs : List Part} (s e : ℕ) →
    IsKeyAt source i (rc_str_bytes key) → (ts : List Tree) → Are source (unkeyed y ∷ xs) ts →
    Are source (keyed i key y ∷ xs) (made (what.Field i) s e ts)
field_on {key = key} s e named _ (one_more (is_whole part) rest) = one_more (is_field key named part) rest

pub field_kept : {source : Tokenized} {i : ℕ} {key : RcStr Global} {y : Expr} {xs ys zs : List Part}
    (s e : ℕ) → zs ≡ unkeyed y ∷ xs → IsKeyAt source i (rc_str_bytes key) → ys ≡ keyed i key y ∷ xs →
    Keeps source (what.Field i) s e zs ys
field_kept {source} s e popped named pushed ts h =
    rw pushed (field_on s e named ts (subst (λ vs. Are source vs ts) popped h))

-- ---- brackets

gather : {source : Tokenized} (ys : List Expr) (xs : List Part) (ts : List Tree) →
    Are source (all_unkeyed ys ++ xs) ts →
    AreParts source (reverse ys) (gathered (length ys) ts) × Are source xs (left_below (length ys) ts)
gather [] xs ts h = (no_part, h)
gather {source} (y ∷ ys) xs _ (one_more {p = p} {ts = us} (is_whole part) rest) =
    let g = gather ys xs us rest in (
      subst (λ zs. AreParts source zs (also (gathered (length ys) us) p)) (sym (reverse-append (y ∷ []) ys))
          (part_behind g.0 part),
      g.1,
    )

bracketed_on : {source : Tokenized} {n : Node} {s e : ℕ} {xs zs : List Part}
    (ys : List Expr) (m : ℕ) (k : Bracketed) (ts : List Tree) →
    AreParts source ys (gathered m ts) × Are source xs (left_below m ts) →
    IsBracketed source k ys n → Puts n s e xs zs → Are source zs (made (what.Bracketed k m) s e ts)
bracketed_on ys m k ts g is (puts same loc) = one_more (is_whole (is_bracketed g.0 (rw same is) loc)) g.1

pub bracketed_kept : {source : Tokenized} {n : Node} {s e : ℕ}
    {xs zs vs : List Part} (ys : List Expr) (m : ℕ) (k : Bracketed) → vs ≡ all_unkeyed (reverse ys) ++ xs →
    length ys ≡ m →
    IsBracketed source k ys n → Puts n s e xs zs → Keeps source (what.Bracketed k m) s e vs zs
bracketed_kept {source} {xs = xs} ys m k popped count is put ts h =
    let g = gather (reverse ys) xs ts (subst (λ us. Are source us ts) popped h) in
    let long : length (reverse ys) ≡ m = length-reverse ys ∙ count in
    let h : AreParts source ys (gathered m ts) × Are source xs (left_below m ts) =
    subst (λ us. AreParts source us (gathered m ts) × Are source xs (left_below m ts)) (reverse-reverse ys)
    (subst (λ l. AreParts source (reverse (reverse ys)) (gathered l ts) × Are source xs
    (left_below l ts)) long g) in
    bracketed_on ys m k ts h is put

-- ---- records

-- the fields, the trees that they are, and what is left below these
pub record Gathers (source : Tokenized) (is : List ℕ) (fs : List (RcStr Global × Expr)) (xs : List Part)
    (n : ℕ) (ts : List Tree) : Type 0 where
  pub fields : AreFields source fs (gathered n ts)
  pub keys : keys_of (gathered n ts) ≡ is
  pub below : Are source xs (left_below n ts)

gather_fields : {source : Tokenized} (is : List ℕ) (fs : List (RcStr Global × Expr)) (xs : List Part)
    (ts : List Tree) → length is ≡ length fs → Are source (all_keyed is fs ++ xs) ts →
    Gathers source (reverse is) (reverse fs) xs (length fs) ts
gather_fields [] [] xs ts same h = record { fields = no_field; keys = refl; below = h }
gather_fields [] (f ∷ fs) xs ts same h = absurd (omega (arith, same))
gather_fields (i ∷ is) [] xs ts same h = absurd (omega (arith, same))
gather_fields {source} (i ∷ is) (f ∷ fs) xs _ same (one_more {ts = us}
    (is_field {p = p} {s = s} {e = e} key named part) rest) =
    let g = gather_fields is fs xs us (omega (arith, same)) rest in
    record {
      fields = subst (λ gs. AreFields source gs (also (gathered (length fs) us) (field i p s e))) (sym
          (reverse-append (f ∷ []) fs)) (field_behind key g.fields named part);
      keys = ap (λ ks. ks ++ i ∷ []) g.keys ∙ sym (reverse-append (i ∷ []) is);
      below = g.below;
    }

-- the latest fields, as the steps have them
pub latest_gathered : {source : Tokenized} {is : List ℕ} {fs : List (RcStr Global × Expr)}
    {xs vs : List Part} {m : ℕ} (ts : List Tree) → vs ≡ all_keyed (reverse is) (reverse fs) ++ xs →
    length is ≡ m → length fs ≡ m → Are source vs ts → Gathers source is fs xs m ts
latest_gathered {source} {is} {fs} {xs} {vs} {m} ts popped keys count h =
    let same : length (reverse is) ≡ length (reverse fs) = length-reverse is ∙ keys ∙ sym count ∙ sym
    (length-reverse fs) in
    let g = gather_fields (reverse is) (reverse fs) xs ts same (subst (λ us. Are source us ts) popped h) in
    let long : length (reverse fs) ≡ m = length-reverse fs ∙ count in
    subst (λ l. Gathers source is fs xs l ts) long
    (subst (λ gs. Gathers source is gs xs (length (reverse fs)) ts) (reverse-reverse fs)
    (subst (λ ks. Gathers source ks (reverse (reverse fs)) xs (length (reverse fs)) ts) (reverse-reverse is) g))

record_on : {source : Tokenized} {is : List ℕ} {fs : List (RcStr Global × Expr)} {n : Node}
    {s e m : ℕ} {xs zs : List Part} (ts : List Tree) → Gathers source is fs xs m ts →
    first_repeated (keys_view fs) ≡ None → n ≡ node.Record (entries_in_order fs) → Puts n s e xs zs →
    Are source zs (made (what.Bracketed Record m) s e ts)
record_on ts g distinct is (puts same loc) =
    one_more (is_whole (is_record g.fields distinct (same ∙ is) loc)) g.below

pub record_kept : {source : Tokenized} {n : Node} {s e m : ℕ} {xs zs vs : List Part} (is : List ℕ)
    (fs : List (RcStr Global × Expr)) → vs ≡ all_keyed (reverse is) (reverse fs) ++ xs → length is ≡ m →
    length fs ≡ m → first_repeated (keys_view fs) ≡ None → n ≡ node.Record (entries_in_order fs) →
    Puts n s e xs zs → Keeps source (what.Bracketed Record m) s e vs zs
record_kept js fs popped keys count distinct is put ts h = record_on ts
    (latest_gathered ts popped keys count h) distinct is put

-- a duplicate key, as the step has it
pub record_refused : {source : Tokenized} {is : List ℕ} {m : ℕ} {vs : List Part} {r : ReadError}
    (fs : List (RcStr Global × Expr)) (xs : List Part) → vs ≡ all_keyed (reverse is) (reverse fs) ++ xs →
    length is ≡ m →
    length fs ≡ m → IsRecordRefused source is r → (ts : List Tree) → Are source vs ts →
    IsRefusedOn source ts (what.Bracketed Record m) r
record_refused fs xs popped keys count (otherwise r) ts h = by_tokens r
record_refused {source} {is} {m} fs xs popped keys count (twice {i} again) ts h =
    let there = (latest_gathered {fs = fs} {xs = xs} ts popped keys count h).keys in
    by_key refl (subst (λ ks. IsKeyAgain source ks i) (sym there) again)

-- ---- all steps

pub step_made : {source : Tokenized} {xs : List Part} (steps : List Step) (i : ℕ) (d : Step) →
    i < length steps →
    Are source xs (made (get_or steps i d).what (get_or steps i d).start (get_or steps i d).end (trees
    (take i steps))) →
    Are source xs (trees (take (i + 1) steps))
step_made {source} {xs} steps i d lt h =
    subst (Are source xs) (sym (ap trees (take_more steps i d lt) ∙ trees_push (take i steps) (get_or steps i d))) h
