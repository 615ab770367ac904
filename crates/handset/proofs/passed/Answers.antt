-- `passed` meets its contract, by the test. Assumes nothing.
use Rattle.std.proofs.Common.{◌≡◌, ℕ, ◌≤◌, Bool, true, false, cond, ltb, refl, ap, ◌∙◌, arith, ltb-true, ltb-false}
use Rattle.std.specs.Prelude.{min}
use Rattle.handset.proofs.passed.Goals as goal

smaller : (p x : ℕ) → min p x ≡ cond (ltb p x) p x
smaller p x = go (ltb p x) refl
  where
    go : (b : Bool) → ltb p x ≡ b → min p x ≡ cond b p x
    go true e = let h = ltb-true p x e in omega arith
    go false e = let h : x ≤ p = ltb-false p x e in omega arith

pub returns : goal.returns
returns c = c.min.ensures ∙ ap (min c.args.pass) c.from.ensures ∙ smaller _ _
