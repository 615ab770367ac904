-- A tone's part of a sample and the sum of two fit their widths: no entry is past 32,767, so a part is at most 14,744 and a sum 29,489. So what the
-- signed words hold is what the definitions say. Assumes nothing.
use Rattle.std.proofs.Common.{◌≡◌, ℕ, zero, suc, ◌+◌, ◌-◌, ◌*◌, ◌/◌, ◌^◌, ◌≤◌, Bool, true, false, cond, ltb, ℤ, pos, negsuc, ◌+ℤ◌, ◌*ℤ◌, neg_ℤ, nat_abs, sym, ap, ◌∙◌, subst, le_trans, arith, lit≤, w16, w32, SFits, to_z, of_z}
use lib.IntN.{sub_ℕ}
use lib.Signed.{mag, shr_z, mag_shr}
use mir.ValLaws.{to_z-of_z}
use Rattle.handset.specs.Tone.{entry_at, tone_at, mixed_at}
use Rattle.handset.proofs.Entries.{bounded}

mag-neg : (m b : ℕ) → m ≤ suc b → mag (neg_ℤ (pos m)) ≤ b
mag-neg zero b h = omega arith
mag-neg (suc m) b h = omega arith

mag-abs : (z : ℤ) → mag z ≤ nat_abs z
mag-abs (pos n) = omega arith
mag-abs (negsuc n) = omega arith

times : (e : ℤ) → nat_abs e ≤ 32767 → mag (pos 14745 *ℤ e) ≤ 483149415
times (pos n) h = omega arith
times (negsuc n) h = mag-neg (14745 * suc n) 483149415 (omega arith)

cut : (z : ℤ) → mag z ≤ 483149415 → mag (shr_z z (2 ^ 15)) ≤ 14744
cut (pos n) h = omega arith
cut (negsuc n) h = omega arith

cond-mag : (c : Bool) (x y : ℤ) (b : ℕ) → mag x ≤ b → mag y ≤ b → mag (cond c x y) ≤ b
cond-mag true x y b h k = h
cond-mag false x y b h k = k

mag-sub : (a b n : ℕ) → a ≤ n → b ≤ suc n → mag (sub_ℕ a b) ≤ n
mag-sub a b n h k = cond-mag (ltb a b) (negsuc (b - suc a)) (pos (a - b)) n (omega arith) (omega arith)

mag-add : (x y : ℤ) → mag (x +ℤ y) ≤ suc (mag x + mag y)
mag-add (pos a) (pos b) = omega arith
mag-add (pos a) (negsuc b) = mag-sub a (suc b) (suc (a + b)) (omega arith) (omega arith)
mag-add (negsuc a) (pos b) = mag-sub b (suc a) (suc (a + b)) (omega arith) (omega arith)
mag-add (negsuc a) (negsuc b) = omega arith

fits32 : (z : ℤ) → mag z ≤ 483149415 → SFits w32 z
fits32 z h = record { sfits = omega arith }

fits16 : (z : ℤ) → mag z ≤ 29489 → SFits w16 z
fits16 z h = record { sfits = omega arith }

-- ---- an entry in hand
module _ (phase : ℕ) (e : ℤ) (is : e ≡ entry_at phase) where
  small-entry : nat_abs e ≤ 32767
  small-entry = subst (λ (z : ℤ). nat_abs z ≤ 32767) (sym is) (bounded (phase / 2 ^ 22))

  pub entry-back : to_z w32 (of_z w32 e) ≡ e
  entry-back = to_z-of_z w32 e (fits32 e (le_trans (mag-abs e) (le_trans small-entry (lit≤ tt))))

  pub product-fits : SFits w32 (pos 14745 *ℤ to_z w32 (of_z w32 e))
  product-fits = subst (λ (z : ℤ). SFits w32 (pos 14745 *ℤ z)) (sym entry-back) (fits32 (pos 14745 *ℤ e) (times e small-entry))

  pub tone-is : to_z w32 (of_z w32 (shr_z (to_z w32 (of_z w32 (pos 14745 *ℤ to_z w32 (of_z w32 e)))) (2 ^ 15))) ≡ tone_at phase
  unfolding tone_at
  tone-is =
      ap (λ (z : ℤ). to_z w32 (of_z w32 (shr_z z (2 ^ 15)))) (to_z-of_z w32 _ product-fits ∙ ap (λ (z : ℤ). pos 14745 *ℤ z) entry-back)
      ∙ to_z-of_z w32 _ (fits32 (shr_z (pos 14745 *ℤ e) (2 ^ 15)) (le_trans (mag_shr (pos 14745 *ℤ e) (2 ^ 15)) (times e small-entry)))
      ∙ ap (λ (z : ℤ). shr_z (pos 14745 *ℤ z) (2 ^ 15)) is

-- ---- a tone's part
tone-small : (phase : ℕ) → mag (tone_at phase) ≤ 14744
unfolding tone_at
tone-small phase = cut (pos 14745 *ℤ entry_at phase) (times (entry_at phase) (bounded (phase / 2 ^ 22)))

pub tone-back : (phase : ℕ) (a : ℤ) → a ≡ tone_at phase → to_z w32 (of_z w32 a) ≡ tone_at phase
tone-back phase a e = to_z-of_z w32 a (fits32 a (subst (λ (z : ℤ). mag z ≤ 483149415) (sym e) (le_trans (tone-small phase) (lit≤ tt)))) ∙ e

-- ---- two
mixed-small : (low high : ℕ) → mag (tone_at low +ℤ tone_at high) ≤ 29489
mixed-small low high = le_trans (mag-add (tone_at low) (tone_at high)) (sum (mag (tone_at low)) (mag (tone_at high)) (tone-small low) (tone-small high))
  where
    sum : (a b : ℕ) → a ≤ 14744 → b ≤ 14744 → suc (a + b) ≤ 29489
    sum a b h k = omega arith

module _ (low high : ℕ) (a b : ℤ) (ea : a ≡ tone_at low) (eb : b ≡ tone_at high) where
  sum-small : mag (a +ℤ b) ≤ 29489
  sum-small = subst (λ (x : ℤ). mag (x +ℤ b) ≤ 29489) (sym ea) (subst (λ (y : ℤ). mag (tone_at low +ℤ y) ≤ 29489) (sym eb) (mixed-small low high))

  pub sum_fits : SFits w32 (a +ℤ b)
  sum_fits = fits32 (a +ℤ b) (le_trans sum-small (lit≤ tt))

  pub cast_fits : SFits w16 (to_z w32 (of_z w32 (a +ℤ b)))
  cast_fits = subst (SFits w16) (sym (to_z-of_z w32 _ sum_fits)) (fits16 (a +ℤ b) sum-small)

  pub mixed-is : to_z w16 (of_z w16 (to_z w32 (of_z w32 (a +ℤ b)))) ≡ mixed_at low high
  unfolding mixed_at
  mixed-is = to_z-of_z w16 _ cast_fits ∙ to_z-of_z w32 _ sum_fits ∙ ap (λ (x : ℤ). x +ℤ b) ea ∙ ap (λ (y : ℤ). tone_at low +ℤ y) eb

pub sample-back : (low high : ℕ) (v : ℤ) → v ≡ mixed_at low high → to_z w16 (of_z w16 v) ≡ mixed_at low high
unfolding mixed_at
sample-back low high v e = to_z-of_z w16 v (fits16 v (subst (λ (z : ℤ). mag z ≤ 29489) (sym e) (mixed-small low high))) ∙ e
