-- What a part more makes of what was written.
use Rattle.std.proofs.Common.{◌≡◌, ℕ, ◌+◌, ◌<◌, ◌≤◌, List, [], ◌∷◌, ◌++◌, length, refl, arith}
use Rattle.std.proofs.Common.{Bool, true, false, Some, None, add-one, if◌then◌else◌}
use Prim.Native.Nat.{max}
use Rattle.cedar_text_lexer.specs.declared.tokens.Kind.{Kind}
use Rattle.cedar_text_lexer.specs.declared.tokens.Kind.TheVariants as kind
use Rattle.cedar_text_lexer.specs.declared.tokens.Token.{Token}
use Rattle.cedar_text_syntax.specs.declared.steps.Leaf.TheVariants as leaves
use Rattle.cedar_text_syntax.specs.declared.steps.Sign.TheVariants.{Not}
use Rattle.cedar_text_syntax.specs.declared.steps.Unary.TheVariants as unaries
use Rattle.cedar_text_syntax.specs.declared.steps.Binary.{Binary}
use Rattle.cedar_text_syntax.specs.declared.steps.Binary.TheVariants as binaries
use Rattle.cedar_text_syntax.specs.declared.steps.Bracketed.TheVariants.{Set}
use Rattle.cedar_text_syntax.specs.declared.steps.What.TheVariants as what
use Rattle.cedar_text_syntax.specs.declared.steps.Step.{Step}
use Rattle.cedar_text_lexer.specs.Sequence.{kind_at, start_at, end_at}
use Rattle.cedar_text_syntax.specs.Trees.{Tree, binary, height, count}
use Rattle.cedar_text_syntax.specs.Trees.{made, trees, FindParts}
use Rattle.cedar_text_syntax.specs.Grammar.{IsPath, IsInBraces}
use Rattle.cedar_text_syntax.proofs.Listed.{gathered-stacked, left_below-stacked}
use Rattle.cedar_text_syntax.proofs.Parts.{stacked_count}
use Rattle.cedar_text_syntax.specs.declared.policies.Annotation.{Annotation}
use Rattle.cedar_text_syntax.specs.declared.policies.PolicySteps.{PolicySteps}
use Rattle.cedar_text_syntax.specs.declared.policies.Variable.{Variable}
use Rattle.cedar_text_syntax.specs.declared.policies.Variable.TheVariants as variable
use Rattle.cedar_text_syntax.specs.PolicyGrammar.{variable_kind, is_slot_of, has_type, effect_of, relation_of, negates}
use Rattle.cedar_text_syntax.specs.PolicyGrammar.{is_word}
use Rattle.cedar_text_syntax.specs.PolicyGrammar.{variable_at, IsEntity, entity, IsReference, to_entity, to_slot}
use Rattle.cedar_text_syntax.specs.PolicyGrammar.{one_entity, one_entity_more, no_entity}
use Rattle.cedar_text_syntax.specs.PolicyGrammar.{some_entities, IsSet, is_set, IsConstraint, unconstrained, compared}
use Rattle.cedar_text_syntax.specs.PolicyGrammar.{in_list, of_type, of_type_in, clause, one_clause}
use Rattle.cedar_text_syntax.specs.PolicyGrammar.{one_clause_more, HasConditions, no_clause, some_clauses, AreAnnotations}
use Rattle.cedar_text_syntax.specs.PolicyGrammar.{one_key, one_value, scope, policy}
use Rattle.cedar_text_syntax.specs.PolicyReading.{Puts, puts, PutsEntities, puts_entities, PutsClause, puts_clause}
use Rattle.cedar_text_syntax.specs.PolicyReading.{PutsClauses, puts_clauses, PutsScope, puts_scope, HasPolicy}
use Rattle.cedar_text_syntax.proofs.Joining.{find_appended}
use Rattle.cedar_text_syntax.proofs.Within.{policy_nested}

-- ---- steps behind others

pub kept : {zs : List Step} (xs ys : List Step) (ok : Bool) → zs ≡ (if ok then xs ++ ys else xs) → FindParts [] xs →
    FindParts [] ys → FindParts [] zs
kept xs ys true is h g = rw is (find_appended xs ys h g)
kept xs ys false is h g = rw is h

-- ---- scopes

pub entity_made : {all : List Token} {i k id n s e t : ℕ} {ts ws : List Tree} →
    IsPath all i k (start_at all i) t → s ≡ start_at all i → kind_at all k ≡ kind.Colons → id ≡ k + 1 →
    kind_at all id ≡ kind.Text → n ≡ id + 1 → e ≡ end_at all id →
    ws ≡ made (what.Leaf (leaves.Entity i id)) s e ts → Puts (IsEntity all i n e) ts ws
entity_made {k = k} h s_is c id_is t n_is e_is w_is =
    rw (w_is, s_is, n_is, e_is, id_is) (puts (entity h c (rw id_is at t)))

pub reference_made : {all : List Token} {v : Variable} {i j e : ℕ} {ts ws : List Tree} →
    Puts (IsEntity all i j e) ts ws → Puts (IsReference all v i j e) ts ws
reference_made (puts h) = puts (to_entity h)

pub slot_made : {all : List Token} {v : Variable} {i s e : ℕ} {ts ws : List Tree} →
    is_slot_of v (kind_at all i) ≡ true → s ≡ start_at all i → e ≡ end_at all i →
    ws ≡ made (what.Leaf (leaves.Slot i)) s e ts → Puts (IsReference all v i (i + 1) e) ts ws
slot_made k s_is e_is w_is = rw (w_is, s_is, e_is) (puts (to_slot k))

pub first_put : {all : List Token} {i j e : ℕ} {ts ws : List Tree} → Puts (IsEntity all i j e) ts ws →
    PutsEntities all i j 1 ts ws
first_put (puts h) = puts_entities (one_entity h)

pub another_put : {all : List Token} {i j k n at e : ℕ} {ts us ws : List Tree} → PutsEntities all i j n ts us →
    kind_at all j ≡ kind.Comma → at ≡ j + 1 → Puts (IsEntity all at k e) us ws → PutsEntities all i k (n + 1) ts ws
another_put {ts = ts} (puts_entities {ps = ps} hs) k at_is (puts h) =
    rw (add-one (count ps)) (puts_entities (one_entity_more hs k (rw at_is at h)))

pub entities_count : {all : List Token} {i j n : ℕ} {ts us : List Tree} → PutsEntities all i j n ts us → n ≤ length us
entities_count {ts = ts} (puts_entities {ps = ps} hs) = stacked_count ps ts

pub no_set_made : {all : List Token} {i first s e : ℕ} {ts ws : List Tree} → kind_at all i ≡ kind.OpenBracket →
    first ≡ i + 1 → kind_at all first ≡ kind.CloseBracket → s ≡ start_at all i → e ≡ end_at all first →
    ws ≡ made (what.Bracketed Set 0) s e ts → Puts (IsSet all i first) ts ws
no_set_made k first_is l s_is e_is w_is =
    rw (w_is, s_is, e_is, first_is) (puts (is_set (no_entity k (rw first_is at l))))

pub set_made : {all : List Token} {i first j n s e : ℕ} {ts us ws : List Tree} → kind_at all i ≡ kind.OpenBracket →
    first ≡ i + 1 → PutsEntities all first j n ts us → kind_at all j ≡ kind.CloseBracket → s ≡ start_at all i →
    e ≡ end_at all j → ws ≡ made (what.Bracketed Set n) s e us → Puts (IsSet all i j) ts ws
set_made {ts = ts} k first_is (puts_entities {ps = ps} hs) l s_is e_is w_is =
    rw (w_is, s_is, e_is, gathered-stacked ps ts, left_below-stacked ps ts)
    (puts (is_set (some_entities k (rw first_is at hs) l)))

pub unconstrained_made : {all : List Token} {v : Variable} {i s e : ℕ} {ts ws : List Tree} →
    kind_at all i ≡ variable_kind v → s ≡ start_at all i → e ≡ end_at all i →
    ws ≡ made (what.Leaf (leaves.Bool true)) s e ts → Puts (IsConstraint all v i (i + 1)) ts ws
unconstrained_made k s_is e_is w_is = rw (w_is, s_is, e_is) (puts (unconstrained k))

both_made : {b : Binary} {s e : ℕ} {x p : Tree} {ts us : List Tree} → us ≡ x ∷ ts →
    made (what.Binary b) s e (p ∷ us) ≡ binary b x p s e ∷ ts
both_made u_is = rw u_is refl

pub compared_made : {all : List Token} {v : Variable} {b : Binary} {o : Kind} {i at j s e : ℕ}
    {ts us vs ws : List Tree} → kind_at all i ≡ variable_kind v → kind_at all (i + 1) ≡ o → relation_of o ≡ Some b →
    at ≡ i + 1 + 1 → us ≡ variable_at all i ∷ ts → Puts (IsReference all v at j e) us vs → s ≡ start_at all i →
    ws ≡ made (what.Binary b) s e vs → Puts (IsConstraint all v i j) ts ws
compared_made {b = b} k o_is r at_is u_is (puts h) s_is w_is =
    rw (w_is, both_made u_is, s_is) (puts (compared {b = b} k (rw o_is r) (rw at_is at h)))

pub list_made : {all : List Token} {i at j n s e : ℕ} {ts us vs ws : List Tree} → kind_at all i ≡ kind.Action →
    kind_at all (i + 1) ≡ kind.In → at ≡ i + 1 + 1 → us ≡ variable_at all i ∷ ts → Puts (IsSet all at j) us vs →
    s ≡ start_at all i → e ≡ end_at all j → ws ≡ made (what.Binary binaries.In) s e vs → n ≡ j + 1 →
    Puts (IsConstraint all variable.Action i n) ts ws
list_made k o at_is u_is (puts h) s_is e_is w_is n_is =
    rw (w_is, both_made u_is, s_is, e_is, n_is) (puts (in_list refl k o (rw at_is at h)))

pub type_made : {all : List Token} {v : Variable} {i at k s t e : ℕ} {ts us ws : List Tree} → has_type v ≡ true →
    kind_at all i ≡ variable_kind v → kind_at all (i + 1) ≡ kind.Is → at ≡ i + 1 + 1 → us ≡ variable_at all i ∷ ts →
    IsPath all at k t e → s ≡ start_at all i → ws ≡ made (what.Unary (unaries.Is at k)) s e us →
    Puts (IsConstraint all v i k) ts ws
type_made h k o at_is u_is p s_is w_is = rw (w_is, s_is, u_is, at_is) (puts (of_type h k o (rw at_is at p)))

pub type_in_made : {all : List Token} {v : Variable} {i name k at j s t e f : ℕ} {ts us vs ws : List Tree} →
    has_type v ≡ true → kind_at all i ≡ variable_kind v → kind_at all (i + 1) ≡ kind.Is → name ≡ i + 1 + 1 →
    IsPath all (i + 1 + 1) k t f → kind_at all k ≡ kind.In → at ≡ k + 1 → us ≡ variable_at all i ∷ ts →
    Puts (IsReference all v at j e) us vs → s ≡ start_at all i →
    ws ≡ made (what.Binary (binaries.IsIn name k)) s e vs → Puts (IsConstraint all v i j) ts ws
type_in_made h k o n_is p l at_is u_is (puts r) s_is w_is =
    rw (w_is, both_made u_is, s_is, n_is) (puts (of_type_in h k o p l (rw at_is at r)))

pub two_put : {is : Tree → Type 0} {p : Tree} {ts us vs : List Tree} → us ≡ p ∷ ts → Puts is us vs → 2 ≤ length vs
two_put u_is (puts h) = rw u_is (omega arith)

pub one_there : {p : Tree} {ts us : List Tree} → us ≡ p ∷ ts → 1 ≤ length us
one_there u_is = rw u_is (omega arith)

pub scope_made : {all : List Token} {i a b c d e f n : ℕ} {ts us vs ws : List Tree} →
    kind_at all i ≡ kind.OpenParen → a ≡ i + 1 → Puts (IsConstraint all variable.Principal a b) ts us →
    kind_at all b ≡ kind.Comma → c ≡ b + 1 → Puts (IsConstraint all variable.Action c d) us vs →
    kind_at all d ≡ kind.Comma → e ≡ d + 1 → Puts (IsConstraint all variable.Resource e f) vs ws →
    kind_at all f ≡ kind.CloseParen → n ≡ f + 1 → PutsScope all i n ts ws
scope_made k a_is (puts p) l c_is (puts q) m e_is (puts r) o n_is =
    rw n_is (puts_scope (scope k (rw a_is at p) l (rw c_is at q) m (rw e_is at r) o))

-- ---- clauses

pub negated_made : {all : List Token} {i close h s e : ℕ} {p : Tree} {ts us ws : List Tree} →
    negates (kind_at all i) ≡ Some true → s ≡ start_at all i → e ≡ end_at all close →
    ws ≡ made (what.Unary (unaries.Sign Not)) s e us → IsInBraces all (i + 1) close p → h ≡ height p → us ≡ p ∷ ts →
    PutsClause all i (close + 1) e (h + 1) ts ws
negated_made k s_is e_is w_is b h_is u_is = rw (w_is, u_is, h_is, s_is, e_is) (puts_clause (clause k b))

pub plain_made : {all : List Token} {i close h e : ℕ} {p : Tree} {ts us : List Tree} →
    negates (kind_at all i) ≡ Some false → e ≡ end_at all close → IsInBraces all (i + 1) close p → h ≡ height p →
    us ≡ p ∷ ts → PutsClause all i (close + 1) e h ts us
plain_made k e_is b h_is u_is = rw (u_is, h_is, e_is) (puts_clause (clause k b))

pub first_clause : {all : List Token} {i j s e h : ℕ} {ts us : List Tree} → PutsClause all i j e h ts us →
    s ≡ start_at all i → PutsClauses all i s j e h ts us
first_clause (puts_clause (clause k b)) s_is = rw s_is (puts_clauses (one_clause (clause k b)))

pub joined_clauses : {all : List Token} {i j k s e f g h below : ℕ} {ts us vs ws : List Tree} →
    PutsClauses all i s j e h ts us → PutsClause all j k f g us vs → below ≡ max h g →
    ws ≡ made (what.Binary binaries.And) s f vs → PutsClauses all i s k f (below + 1) ts ws
joined_clauses (puts_clauses hs) (puts_clause h) b_is w_is =
    rw (w_is, b_is) (puts_clauses (one_clause_more hs h))

pub clauses_one : {all : List Token} {i j s e h : ℕ} {ts us : List Tree} → PutsClauses all i s j e h ts us →
    1 ≤ length us
clauses_one (puts_clauses hs) = omega arith

pub clause_two : {all : List Token} {i j e h : ℕ} {ts us : List Tree} → 1 ≤ length ts → PutsClause all i j e h ts us →
    2 ≤ length us
clause_two le (puts_clause h) = omega (arith, le)

pub condition_made : {all : List Token} {i j s e h limit : ℕ} {ts us : List Tree} → PutsClauses all i s j e h ts us →
    h ≤ limit → kind_at all j ≡ kind.Semicolon →
    Puts (λ p. HasConditions all i j p × (height p ≤ limit)) ts us
condition_made (puts_clauses hs) le k = puts (some_clauses hs k, le)

pub no_condition_made : {all : List Token} {i s e limit : ℕ} {ts ws : List Tree} → kind_at all i ≡ kind.Semicolon →
    1 ≤ limit → s ≡ start_at all i → e ≡ end_at all i → ws ≡ made (what.Leaf (leaves.Bool true)) s e ts →
    Puts (λ p. HasConditions all i i p × (height p ≤ limit)) ts ws
no_condition_made k le s_is e_is w_is = rw (w_is, s_is, e_is) (puts (no_clause k, le))

-- ---- annotations

pub key_read : {all : List Token} {i j key n : ℕ} {xs ys : List Annotation} → kind_at all j ≡ kind.At → key ≡ j + 1 →
    is_word (kind_at all key) ≡ true → n ≡ key + 1 → ys ≡ xs ++ record { key = key; value = None } ∷ [] →
    AreAnnotations all i j xs → AreAnnotations all i n ys
key_read k key_is w n_is y_is h = rw (y_is, n_is, key_is) (one_key h k (rw key_is at w))

pub value_read : {all : List Token} {i j key paren text close n : ℕ} {xs ys : List Annotation} →
    kind_at all j ≡ kind.At → key ≡ j + 1 → is_word (kind_at all key) ≡ true → paren ≡ key + 1 →
    kind_at all paren ≡ kind.OpenParen → text ≡ paren + 1 → kind_at all text ≡ kind.Text → close ≡ text + 1 →
    kind_at all close ≡ kind.CloseParen → n ≡ close + 1 → ys ≡ xs ++ record { key = key; value = Some text } ∷ [] →
    AreAnnotations all i j xs → AreAnnotations all i n ys
value_read k key_is w paren_is l text_is m close_is o n_is y_is h =
    rw (y_is, n_is, close_is, text_is, paren_is, key_is)
    (one_value h k (rw key_is at w) (rw (paren_is, key_is) at l) (rw (text_is, paren_is, key_is) at m)
    (rw (close_is, text_is, paren_is, key_is) at o))

-- ---- policies

pub policy_read : {all : List Token} {i limit k l last : ℕ} {us vs : List Tree} (out : PolicySteps) →
    AreAnnotations all i k out.annotations.items → effect_of (kind_at all k) ≡ Some out.permits →
    PutsScope all (k + 1) l [] us → Puts (λ p. HasConditions all l last p × (height p ≤ limit)) us vs →
    trees out.steps.items ≡ vs → out.start ≡ start_at all i → out.end ≡ end_at all last → out.next ≡ last + 1 →
    last < length all → HasPolicy all i limit out
policy_read {all = all} {i = i} {last = last} out xs b (puts_scope {p = p} {q = q} {r = r} s) (puts {p = t} c) t_is s_is e_is n_is lt =
    record {
      last = last;
      principal = p;
      action = q;
      resource = r;
      condition = t;
      derives = policy xs b s c.0;
      makes = t_is;
      low = c.1;
      start = s_is;
      end = e_is;
      next = n_is;
      within = lt;
      nested = λ ordered. policy_nested ordered (policy xs b s c.0) lt;
    }
