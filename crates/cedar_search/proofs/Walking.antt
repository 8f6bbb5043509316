-- The candidates, one after the other.
use Rattle.std.proofs.Common.{◌≡◌, refl, sym, ap, ◌∙◌, subst, Bool, true, false, cond, ℕ, ◌≤◌, ◌<◌, List, [], ◌∷◌, ◌++◌, append_assoc, Some, None, drop, length, length-append, arith}
use Rattle.std.proofs.lemmas.List.{append-nil}
use Rattle.cedar_model.specs.Terms.{EntityName}
use Rattle.cedar_search.specs.Questions.{Question}
use Rattle.cedar_search.specs.Found.{AreThePermitted, AreAdded, IsDecided}
use Rattle.cedar_search.specs.Pages.{IsPage, page_made}
use Rattle.cedar_search.proofs.Keeping.{kept_both, kept_one}

-- of all candidates these are left, and what is permitted of the others was added
pub record AreFoundUpTo (q : Question) (all left before now : List EntityName) : Type 0 where
  pub here : List EntityName
  pub new : List EntityName
  pub split : all ≡ here ++ left
  pub permitted : AreThePermitted q here new
  pub added : now ≡ before ++ new

module _ (q : Question) (all : List EntityName) (before : List EntityName) where
  pub begins : AreFoundUpTo q all all before before
  begins = record { here = []; new = []; split = refl; permitted = refl; added = sym (append-nil before) }

  pub one_more : (e : EntityName) (left now after : List EntityName) (b : Bool) → AreFoundUpTo q all (e ∷ left) before now
      → IsDecided q e b → after ≡ now ++ cond b (e ∷ []) [] → AreFoundUpTo q all left before after
  one_more e left now after b so_far is e2 = record {
    here = so_far.here ++ (e ∷ []);
    new = so_far.new ++ cond b (e ∷ []) [];
    split = so_far.split ∙ sym (append_assoc so_far.here (e ∷ []) left);
    permitted = kept_both (IsDecided q) so_far.here (e ∷ []) so_far.new (cond b (e ∷ []) []) so_far.permitted (kept_one (IsDecided q) e b is);
    added = e2 ∙ ap (λ l. l ++ cond b (e ∷ []) []) so_far.added ∙ append_assoc before so_far.new (cond b (e ∷ []) []);
  }

  pub ends : (left now : List EntityName) → AreFoundUpTo q all left before now → left ≡ [] → AreAdded q all before now
  ends left now so_far none =
      let split : all ≡ so_far.here = so_far.split ∙ ap (λ l. so_far.here ++ l) none ∙ append-nil so_far.here in
      (so_far.new, subst (λ l. AreThePermitted q l so_far.new) (sym split) so_far.permitted, so_far.added)

  pub one_longer : (e : EntityName) (now after : List EntityName) (b : Bool) (n : ℕ) → after ≡ now ++ cond b (e ∷ []) []
      → length now < n → length after ≤ n
  one_longer e now after true n same less = omega (arith, ap length same, length-append now (e ∷ []))
  one_longer e now after false n same less = omega (arith, ap length same, length-append {A = EntityName} now [])

-- what is added to nothing
pub of_none : (q : Question) (es after : List EntityName) → AreAdded q es [] after → AreThePermitted q es after
of_none q es after (found, are, same) = subst (λ l. AreThePermitted q es l) (sym same) are

-- a page that is full before all candidates were asked, and one behind which none is left
module _ (q : Question) (es : List EntityName) (after count : ℕ) where
  pub full_page : (n : ℕ) (now : List EntityName) → AreFoundUpTo q (drop after es) (drop n es) [] now → n < length es
      → length now ≡ count → IsPage q es after count (page_made now (Some n))
  full_page n now so_far more full = record {
    here = so_far.here;
    split = so_far.split;
    permitted = subst (λ l. AreThePermitted q so_far.here l) (sym so_far.added) so_far.permitted;
    within = omega arith;
    full = full;
    left = more;
  }

  pub last_page : (n : ℕ) (now : List EntityName) → AreFoundUpTo q (drop after es) (drop n es) [] now → drop n es ≡ []
      → length now ≤ count → IsPage q es after count (page_made now None)
  last_page n now so_far none within = record {
    here = so_far.here;
    split = so_far.split ∙ ap (λ l. so_far.here ++ l) none;
    permitted = subst (λ l. AreThePermitted q so_far.here l) (sym so_far.added) so_far.permitted;
    within = within;
    full = tt;
    left = tt;
  }
