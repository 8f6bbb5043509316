-- What frames wait for, for any frames F, parts P and answers A: R is which answers are right by the number of levels,
-- W what frames wait for.
use Rattle.std.specs.Prelude.{◌≡◌, ℕ, zero, suc, ◌+◌, ◌-◌, ◌*◌, ◌^◌, ◌<◌, Bool, true, false}
use Rattle.std.specs.Prelude.{List, [], ◌∷◌, ◌++◌, length}
use Rattle.cedar_frames.specs.declared.turns.Mode.{Mode}
use Rattle.cedar_frames.specs.declared.turns.Mode.TheVariants.{Eval, Answer}
use Rattle.cedar_frames.specs.declared.turns.Turn.{Turn}
use Rattle.cedar_frames.specs.declared.turns.Turn.TheVariants.{Go, End}
use Rattle.cedar_frames.specs.declared.stack.Stack.{Stack}
use Rattle.cedar_frames.specs.declared.machine.Transition.{Transition}
use Rattle.cedar_frames.specs.declared.machine.Transition.TheVariants.{Done, Wait}

-- what comes next of t is right, with k levels for its parts
abbrev pub Resumes : {F P A : Type 0} → (ℕ → P → A → Type 0) → (ℕ → F → P → P → Type 0) → ℕ → P → Transition F P A
    → Type 0
Resumes R W k t (Done a) = R (suc k) t a
Resumes R W k t (Wait f c) = W k f t c

-- with so many levels left for what waits in the frame, what comes next of it is right, whatever it is, and whichever
-- its part is that answered a
abbrev pub GoesOn : {F P A : Type 0} → (ℕ → P → A → Type 0) → (ℕ → F → P → P → Type 0) → ℕ → F → A → Transition F P A
    → Type 0
GoesOn {F} {P} {A} R W levels f a n = (k : ℕ) (t c : P) → suc k ≡ levels → W k f t c → R k c a → Resumes R W k t n

-- an answer that ends all is right of a part only where it is right of what waits for the part
abbrev pub Rises : {F P A : Type 0} → (A → Bool) → (ℕ → P → A → Type 0) → (ℕ → F → P → P → Type 0) → Type 0
Rises {F} {P} {A} ends R W = (k : ℕ) (f : F) (t c : P) (a : A) → ends a ≡ true → W k f t c → R k c a → R (suc k) t a

-- from the bottom of the stack: the whole e, with k levels, waits in the first frame, and so on, until the last frame
-- waits for c, with j levels
abbrev pub Chain : {F P : Type 0} → (ℕ → F → P → P → Type 0) → ℕ → ℕ → P → List F → P → Type 0
Chain W k j e [] c = (k ≡ j) × (e ≡ c)
Chain W zero j e (f ∷ fs) c = ⊥
Chain {F} {P} W (suc k) j e (f ∷ fs) c = (d : P) × W k f e d × Chain W k j d fs c

-- where the loop is, for the whole e with limit levels
abbrev pub State : {F P A : Type 0} → (ℕ → P → A → Type 0) → (ℕ → F → P → P → Type 0) → ℕ → P → List F → Mode P A
    → Type 0
State R W limit e fs (Eval c) = (j : ℕ) × Chain W limit j e fs c
State {F} {P} {A} R W limit e fs (Answer a) = (j : ℕ) × (c : P) × Chain W limit j e fs c × R j c a

-- what a turn leads to
abbrev pub Turned : {F P A : Type 0} → (ℕ → P → A → Type 0) → (ℕ → F → P → P → Type 0) → ℕ → P → List F → Turn P A
    → Type 0
Turned R W limit e fs (Go mode) = State R W limit e fs mode
Turned R W limit e fs (End a) = R limit e a

-- a turn on a stack, from where the loop is there to what it leads to, whatever the whole is
abbrev pub IsRightTurn : {F P A : Type 0} → (ℕ → P → A → Type 0) → (ℕ → F → P → P → Type 0) → Stack F → Mode P A
    → Stack F → Turn P A → Type 0
IsRightTurn {F} {P} {A} R W old mode new turn =
    (e : P) → State R W old.limit e old.frames.items mode → Turned R W old.limit e new.frames.items turn

-- the same where the turn began with a wait in one frame more
abbrev pub IsRightWait : {F P A : Type 0} → (ℕ → P → A → Type 0) → (ℕ → F → P → P → Type 0) → Stack F → F → P
    → Stack F → Turn P A → Type 0
IsRightWait {F} {P} {A} R W old f c new turn =
    (e : P) → State R W old.limit e (old.frames.items ++ f ∷ []) (Eval c)
    → Turned R W old.limit e new.frames.items turn

-- the same on any stack, which stays as it is
abbrev pub StaysRight : {F P A : Type 0} → (ℕ → P → A → Type 0) → (ℕ → F → P → P → Type 0) → A → Turn P A → Type 0
StaysRight {F} {P} {A} R W a turn =
    (limit : ℕ) (e : P) (fs : List F) → State R W limit e fs (Answer a) → Turned R W limit e fs turn

-- an answer that is handed to the last frame is none that ends the whole
abbrev pub IsHandedOn : {P A : Type 0} → (A → Bool) → Turn P A → Type 0
IsHandedOn ends (Go (Eval c)) = Unit {0}
IsHandedOn ends (Go (Answer a)) = ends a ≡ false
IsHandedOn ends (End a) = Unit {0}

-- ---- the turns that are left, as a number with a digit for each frame

-- the digits of the frames, where q is the greatest digit, with the bottom frame's at the place k
abbrev pub work : {F : Type 0} → (F → ℕ) → ℕ → ℕ → List F → ℕ
work left_of q k [] = 0
work left_of q k (f ∷ fs) = left_of f * suc q ^ k + work left_of q (k - 1) fs

-- a part that is not looked at yet counts as the greatest digit
abbrev pub mode_work : {P A : Type 0} → ℕ → ℕ → Mode P A → ℕ
mode_work q j (Eval c) = q * suc q ^ j
mode_work q j (Answer a) = 0

abbrev pub work_left : {F P A : Type 0} → (F → ℕ) → ℕ → ℕ → List F → Mode P A → ℕ
work_left left_of q limit fs mode = work left_of q limit fs + mode_work q (limit - length fs) mode

-- a frame that waits again can wait less often than before
abbrev pub Fewer : {F P A : Type 0} → (F → ℕ) → F → Transition F P A → Type 0
Fewer left_of f (Done a) = Unit {0}
Fewer left_of f (Wait g c) = left_of g < left_of f

-- a part that is not looked at yet counts for more than its first frame
abbrev pub Below : {F P A : Type 0} → (F → ℕ) → ℕ → Transition F P A → Type 0
Below left_of q (Done a) = Unit {0}
Below left_of q (Wait g c) = left_of g < q

-- after a turn less is left than n
abbrev pub Less : {F P A : Type 0} → (F → ℕ) → ℕ → ℕ → ℕ → List F → Turn P A → Type 0
Less left_of n q limit fs (Go mode) = work_left left_of q limit fs mode < n
Less left_of n q limit fs (End a) = Unit {0}

-- a turn on a stack leaves less than was left
abbrev pub IsLessLeft : {F P A : Type 0} → (F → ℕ) → ℕ → Stack F → Mode P A → Stack F → Turn P A → Type 0
IsLessLeft left_of q old mode new turn =
    Less left_of (work_left left_of q old.limit old.frames.items mode) q old.limit new.frames.items turn

-- a turn that began with a wait in one frame more leaves no more than was left then
abbrev pub IsWaitLeft : {F P A : Type 0} → (F → ℕ) → ℕ → Stack F → F → P → Stack F → Turn P A → Type 0
IsWaitLeft {F} {P} {A} left_of q old f c new turn =
    (n : ℕ) → work_left {A = A} left_of q old.limit (old.frames.items ++ f ∷ []) (Eval c) < n
    → Less left_of n q old.limit new.frames.items turn

-- the same after an answer on any stack, which stays as it is
abbrev pub IsAnswerLeft : {F P A : Type 0} → (F → ℕ) → ℕ → A → Turn P A → Type 0
IsAnswerLeft {F} {P} {A} left_of q a turn =
    (n limit : ℕ) (fs : List F) → work_left {P = P} left_of q limit fs (Answer a) < n
    → Less left_of n q limit fs turn
