-- Pages for which no more than so many candidates are looked at.
use Rattle.std.proofs.Common.{◌≡◌, ◌+◌, ◌-◌, ◌<◌, ◌≤◌, ◌&&◌, ◌∙◌, List, ℕ, suc, [], ◌∷◌, refl, Bool, true, false, Option, Some, None, Result, Ok, Err, IfOk, length, map, take, nat_lt, ap, sym, subst, arith}
use Rattle.std.proofs.lemmas.Bool.Decides.{nat_tests}
use Rattle.std.proofs.lemmas.List.{take_all, take-map}
use Rattle.std.specs.Option.{option_or}
use Rattle.std.specs.declared.alloc.AllocError.{AllocError}
use Rattle.cedar_model.specs.Terms.{EntityName}
use Rattle.cedar_names.specs.declared.names.EntityUID.{EntityUID}
use Rattle.cedar_names.specs.Names.{uid_name}
use Rattle.cedar_endpoints.specs.declared.replies.Finding.{Finding}
use Rattle.cedar_search.specs.Questions.{Question}
use Rattle.cedar_search.specs.Pages.{Page, page_made, IsPage}
use Rattle.cedar_service.specs.Searched.{next_at, goes_on, IsListed, IsFindingOf}

pub before : (after bound count : ℕ) → (nat_lt after count && nat_lt bound (count - after)) ≡ nat_lt (after + bound) count
before after bound count = grind (arith, nat_tests)

-- where it does not stop before the end, all are looked at
pub all_looked_at : {A : Type 0} (xs : List A) (n : ℕ) → nat_lt n (length xs) ≡ false → xs ≡ take n xs
all_looked_at xs n h = sym (take_all n xs (grind (arith, nat_tests)))

counted : (us : List EntityUID) → length (map uid_name us) ≡ length us
counted [] = refl
counted (u ∷ us) = ap suc (counted us)

-- what is found of a page is what is found
pub as_listed : (q : Question) (us : List EntityUID) (after most bound : ℕ) (p : Page) (next : Option ℕ)
    → IsPage q (take (after + bound) (map uid_name us)) after most p
    → next ≡ option_or p.next (next_at (after + bound) (length us))
    → (o : Result Finding AllocError) → IfOk o (IsFindingOf q.part (page_made p.found next))
    → IfOk o (IsListed bound q (map uid_name us) after most)
as_listed q us after most bound p next is goes (Ok f) h = (
  p,
  is,
  subst (λ (n : ℕ). IsFindingOf q.part (goes_on (after + bound) n p) f) (sym (counted us))
      (subst (λ (o : Option ℕ). IsFindingOf q.part (page_made p.found o) f) goes h),
)
as_listed q us after most bound p next is goes (Err e) h = tt

pub ruleset bounded = (before)
