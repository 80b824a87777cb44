-- From a function's theorem, as the toolchain states it, to what a call owes.
-- Assumes nothing.
use mathlib.Core.Path.{◌≡◌}
use seplogic.Ra.Ura.{Ura}
use base.Logic.{SProp, emp, sep, ex, ex_e, ex_i, via, mono_r}
use mir.Val.{Val}
use prog.Model.{Model}
use mir.Syntax.{Callee}
use prog.Wired.{Code, Wired}
use contract.Monad.{fact, fact_mono, fm→mono}
use contract.Running.{Running}
use types.Logic.{Logic, sem}
use denote.Triple.Entry.{Args, Res}
use denote.Triple.Bound.{passed}
use denote.Triple.Spec.{Back, Meets}
use denote.Triple.Clauses.{Ended, AtExit, Clauses, Lasts, at_exit, lasts, closing}
use denote.Triple.Table.{run_framed}
use Rattle.demands.specs.Owes.{Lifetimes, Promise, Owes}

-- the contract that asks for nothing and ensures a promise
abbrev clauses : (f : Ended) → Promise f → {M : Type 1} (𝓤 : Ura M) → Clauses 𝓤 f
clauses f promise 𝓤 κ a = record { ghost = Unit {0}; requires = λ g. emp 𝓤; ensures = λ g x e. fact 𝓤 (promise κ a x e) }

module _
    {Outcome : Type 0} {f : Ended} {name : Callee} {code : Code} {outcome : (κ : Lifetimes f) → Res f.signature κ → AtExit f κ → Outcome}
    {definition : (κ : Lifetimes f) → Args f.signature κ → Outcome} (promise : Promise f) where
  -- A function whose contract asks for nothing, and whose promise gives the definition, owes nothing more.
  pub owing :
      ((M : Type 1) (𝓤 : Ura M) (𝓛 : Logic 𝓤) (𝓜 : Model 𝓤 𝓛.H) (𝓡 : Running 𝓤 𝓛.H 𝓜) → Wired 𝓡.env code
      → Meets 𝓛 f.signature (𝓡.run (𝓡.env name)) (closing 𝓛 f (clauses f promise 𝓤)))
      → ((κ : Lifetimes f) (a : Args f.signature κ) (x : Res f.signature κ) (e : AtExit f κ) → promise κ a x e → outcome κ x e ≡ definition κ a)
      → Owes f name code outcome definition
  owing met follows =
      record {
        met = λ w wired y.
            let routine = w.𝓡.env name in
            let S = f.signature in
            let κ = y.0.0 in
            let a = y.0.3 in
            let args = passed w.𝓛 S y.0 in
            -- what is left at the return, with a result x and last values of what is lent, where P holds of them
            let left : Promise f → Res S κ → Lasts f κ a → SProp w.𝓤 =
            λ P x ws. sep w.𝓤 (sem w.𝓛 (lasts f κ a ws)) (fact w.𝓤 (P κ a x (at_exit f κ a ws))) in
            let at : Promise f → Val → Res S κ → SProp w.𝓤 =
            λ P v x. sep w.𝓤 (Back w.𝓛 S y.0 v x) (ex w.𝓤 (left P x)) in
            let ends : Promise f → Val → SProp w.𝓤 = λ P v. w.𝓛.H.⇛ (ex w.𝓤 (at P v)) in
            let Q : Promise f = λ κ a x e. outcome κ x e ≡ definition κ a in
            via w.𝓤 (w.𝓡.run routine args (ends promise)) (met w.M w.𝓤 w.𝓛 w.𝓜 w.𝓡 wired y)
            (fm→mono w.𝓤 (w.𝓡.run routine args) (run_framed w.𝓤 w.𝓛.H w.𝓜 w.𝓡 routine args) (ends promise) (ends Q)
            (λ v. w.𝓛.laws.⇛_mono _ _
            (ex_e w.𝓤 (at promise v) (λ x.
            via w.𝓤 (at Q v x)
            (mono_r w.𝓤 (Back w.𝓛 S y.0 v x)
            (ex_e w.𝓤 (left promise x) (λ ws.
            via w.𝓤 (left Q x ws)
            (mono_r w.𝓤 (sem w.𝓛 (lasts f κ a ws)) (fact_mono w.𝓤 (promise κ a x (at_exit f κ a ws)) (Q κ a x (at_exit f κ a ws)) (follows κ a x (at_exit f κ a ws))))
            (ex_i w.𝓤 (left Q x) ws))))
            (ex_i w.𝓤 (at Q v) x)))));
      }
