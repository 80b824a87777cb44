-- "What each call owes".
-- Assumes nothing.
use Rattle.std.specs.Prelude.{ℕ, ◌≡◌, List}
use base.Logic.{emp}
use mir.Syntax.{Callee}
use prog.Wired.{Code, Wired}
use contract.Monad.{fact}
use contract.Lifetimes.{Lfts}
use denote.Triple.Entry.{Args, Res}
use denote.Triple.Spec.{Meets}
use denote.Triple.Clauses.{Ended, AtExit, closing}
use borrow.Fn.World.{World}
use Rattle.header.specs.declared.options.Options.{Options}
use Rattle.listing.specs.Scan.{Listed, Outcome}
use Rattle.writing.specs.Write.{Written}
use Rattle.host.specs.Options.{options_of}

-- A function is, to the toolchain, its parameters and result (f), its name, and the code that is compiled, its own and that of
-- all that it calls. A κ names the lifetimes of what is lent, a are the arguments, x is the result, and e is what is lent at the
-- return.
module _ (f : Ended) where
  abbrev pub Lifetimes : Type 0
  Lifetimes = Lfts f.signature.lifetimes

  abbrev pub Promise : Type 1
  Promise = (κ : Lifetimes) → Args f.signature κ → Res f.signature κ → AtExit f κ → Type 0

  -- What the toolchain proves of a function (`Meets`), at the contract that asks for nothing and ensures a promise: in every
  -- world whose program has that code, with any arguments, a call of the name ends, stays inside what it was lent, and leaves
  -- the promise true.
  abbrev pub Keeps : Callee → Code → Promise → Type 2
  Keeps name code promise =
      (w : World) → Wired w.𝓡.env code
      → Meets w.𝓛 f.signature (w.𝓡.run (w.𝓡.env name))
      (closing w.𝓛 f
      (λ κ a. record { ghost = Unit {0}; requires = λ g. emp w.𝓤; ensures = λ g x e. fact w.𝓤 (promise κ a x e) }))

-- "Any bytes may be lent ... Every call ends, stays inside what it was lent"; "Each call's result and every lent byte
-- afterwards follow from its inputs alone, refusals too." `outcome` picks what a caller sees, the result and the lent bytes
-- afterwards, and that is what the definition says of the arguments. The function's name and the definition meet in one
-- statement, so the theorem of another function has no place here.
pub record Owes
    {Outcome : Type 0} (f : Ended) (name : Callee) (code : Code) (outcome : (κ : Lifetimes f) → Res f.signature κ → AtExit f κ → Outcome)
    (definition : (κ : Lifetimes f) → Args f.signature κ → Outcome)
    : Type 2 where
  pub met : Keeps f name code (λ κ a x e. outcome κ x e ≡ definition κ a)

-- the arguments of a call, in their order
abbrev pub arg1 : {A B : Type 0} → A × B → A
arg1 a = a.0

abbrev pub arg2 : {A B C : Type 0} → A × (B × C) → B
arg2 a = arg1 a.1

abbrev pub arg3 : {A B C D : Type 0} → A × (B × (C × D)) → C
arg3 a = arg2 a.1

abbrev pub arg4 : {A B C D E : Type 0} → A × (B × (C × (D × E))) → D
arg4 a = arg3 a.1

abbrev pub arg5 : {A B C D E F : Type 0} → A × (B × (C × (D × (E × F)))) → E
arg5 a = arg4 a.1

abbrev pub arg6 : {A B C D E F G : Type 0} → A × (B × (C × (D × (E × (F × G))))) → F
arg6 a = arg5 a.1

abbrev pub arg7 : {A B C D E F G H : Type 0} → A × (B × (C × (D × (E × (F × (G × H)))))) → G
arg7 a = arg6 a.1

abbrev pub arg8 : {A B C D E F G H I : Type 0} → A × (B × (C × (D × (E × (F × (G × (H × I))))))) → H
arg8 a = arg7 a.1

abbrev pub arg9 : {A B C D E F G H I J : Type 0} → A × (B × (C × (D × (E × (F × (G × (H × (I × J)))))))) → I
arg9 a = arg8 a.1

abbrev pub arg10 : {A B C D E F G H I J K : Type 0} → A × (B × (C × (D × (E × (F × (G × (H × (I × (J × K))))))))) → J
arg10 a = arg9 a.1

abbrev pub arg11 : {A B C D E F G H I J K L : Type 0} → A × (B × (C × (D × (E × (F × (G × (H × (I × (J × (K × L)))))))))) → K
arg11 a = arg10 a.1

abbrev pub arg12 : {A B C D E F G H I J K L M : Type 0} → A × (B × (C × (D × (E × (F × (G × (H × (I × (J × (K × (L × M))))))))))) → L
arg12 a = arg11 a.1

abbrev pub arg13 : {A B C D E F G H I J K L M N : Type 0} → A × (B × (C × (D × (E × (F × (G × (H × (I × (J × (K × (L × (M × N)))))))))))) → M
arg13 a = arg12 a.1

abbrev pub arg14 : {A B C D E F G H I J K L M N O : Type 0} → A × (B × (C × (D × (E × (F × (G × (H × (I × (J × (K × (L × (M × (N × O))))))))))))) → N
arg14 a = arg13 a.1

-- the six numbers by which C hands over the options
abbrev pub host_options : {A : Type 0} → ℕ × (ℕ × (ℕ × (ℕ × (ℕ × (ℕ × A))))) → Options
host_options a = options_of (arg1 a) (arg2 a) (arg3 a) (arg4 a) (arg5 a) (arg6 a)

-- an answer with the image that is left, and a listing with the list that is left
abbrev pub written : ℕ → List ℕ → Written
written answer image = record { answer = answer; image = image }

abbrev pub outcome : Listed → List ℕ → Outcome
outcome listed numbers = record { listed = listed; numbers = numbers }

-- one of a listing's numbers, with the list that is left
pub record Beside : Type 0 where
  pub number : ℕ
  pub numbers : List ℕ

abbrev pub beside : ℕ → List ℕ → Beside
beside number numbers = record { number = number; numbers = numbers }

abbrev pub one : (Listed → ℕ) → Outcome → Beside
one number x = beside (number x.listed) x.numbers
