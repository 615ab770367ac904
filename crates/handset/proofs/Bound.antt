-- The test of an entry is enough. A fraction below another has the smaller terms, so a test at the two ends of a bound says what holds between them;
-- and from degree 25 on the sums stay between the first two, for the terms fall. Assumes nothing.
use Rattle.std.proofs.Common.{◌≡◌, ℕ, zero, suc, ◌+◌, ◌-◌, ◌*◌, ◌^◌, ◌<◌, ◌≤◌, Bool, true, false, ◌&&◌, T, ℤ, sym, ap, ◌∙◌, subst, le_trans, mul-le-mul_right, mul-le-mul, suc-add, mul-le-mul_left, mul-pos, pow-suc, le_of_mul-le-mul_right, arith, lit<, lit≤, leb→le}
use native.Mathlib.Nat.{pow-zero}
use Rattle.handset.specs.Sine.{plus_terms, minus_terms, denominator, plus_terms3, minus_terms3, denominator3, growth3, growth5}
use Rattle.handset.specs.Rule.{plus_part, minus_part, NearSine, pi_low, pi_high, pi_scale, IsSine}
use Rattle.handset.proofs.Fits.{fits, fits-above, fits_below}

pub both_left : (a b : Bool) → T (a && b) → T a
both_left true b t = tt
both_left false b t = t

pub both_right : (a b : Bool) → T (a && b) → T b
both_right true b t = t
both_right false b t = absurd t

pow-two : (n k m : ℕ) → m ≡ k + 2 → n ^ m ≡ n ^ k * (n * n)
pow-two n k m e = ap (λ (m : ℕ). n ^ m) (plus_part k m e) ∙ rw (pow-suc, pow-suc) (turn (n ^ k) n)
  where
    plus_part : (k m : ℕ) → m ≡ k + 2 → m ≡ suc (suc k)
    plus_part k m e = omega arith

    turn : (a n : ℕ) → a * n * n ≡ a * (n * n)
    turn a n = omega arith

pow-one : (n : ℕ) → n ^ 1 ≡ n
pow-one n = rw (pow-suc, pow-zero) (omega arith)

to-third : (n j : ℕ) → n ^ (4 * j + 3) ≡ n ^ (4 * j + 1) * (n * n)
to-third n j = pow-two n (4 * j + 1) (4 * j + 3) (omega arith)

to-fifth : (n j : ℕ) → n ^ (4 * j + 5) ≡ n ^ (4 * j + 3) * (n * n)
to-fifth n j = pow-two n (4 * j + 3) (4 * j + 5) (omega arith)

to-first : (n j : ℕ) → n ^ (4 * suc j + 1) ≡ n ^ (4 * j + 5)
to-first n j = ap (λ (m : ℕ). n ^ m) (again j)
  where
    again : (j : ℕ) → 4 * suc j + 1 ≡ 4 * j + 5
    again j = omega arith

-- a / w ≤ A / W
record Upto (a w A W : ℕ) : Type 0 where
  upto : a * W ≤ A * w

add : {a w A W b B : ℕ} → Upto a w A W → Upto b w B W → Upto (a + b) w (A + B) W
add {a} {w} {A} {W} {b} {B} h k = record { upto = put a w A W b B h.upto k.upto }
  where
    put : (a w A W b B : ℕ) → a * W ≤ A * w → b * W ≤ B * w → (a + b) * W ≤ (A + B) * w
    put a w A W b B h k = omega arith

module _ (n d N D : ℕ) (h : n * D ≤ N * d) where
  -- the old part, taken to the new denominator
  stretch : (c a w A W : ℕ) → Upto a w A W → Upto (a * (d * d * c)) (w * (d * d * c)) (A * (D * D * c)) (W * (D * D * c))
  stretch c a w A W k = record { upto = put a w A W (d * d * c) (D * D * c) k.upto }
    where
      put : (a w A W f F : ℕ) → a * W ≤ A * w → a * f * (W * F) ≤ A * F * (w * f)
      put a w A W f F k = omega (arith, mul-le-mul_right (f * F) k)

  -- the new term, two degrees up
  power : (c a w A W : ℕ) → Upto a w A W → Upto (a * (n * n)) (w * (d * d * c)) (A * (N * N)) (W * (D * D * c))
  power c a w A W k = record { upto = put a w A W k.upto (mul-le-mul h h) }
    where
      put : (a w A W : ℕ) → a * W ≤ A * w → n * D * (n * D) ≤ N * d * (N * d) → a * (n * n) * (W * (D * D * c)) ≤ A * (N * N) * (w * (d * d * c))
      put a w A W k hh = omega (arith, mul-le-mul_right c (mul-le-mul k hh))

  third_of : (j : ℕ) → Upto (n ^ (4 * j + 1)) (denominator d j) (N ^ (4 * j + 1)) (denominator D j) → Upto (n ^ (4 * j + 3)) (denominator3 d j) (N ^ (4 * j + 3)) (denominator3 D j)
  third_of j k = rw (to-third n j, to-third N j) (power ((4 * j + 2) * (4 * j + 3)) _ _ _ _ k)

  fifth-of : (j : ℕ) → Upto (n ^ (4 * j + 1)) (denominator d j) (N ^ (4 * j + 1)) (denominator D j) → Upto (n ^ (4 * j + 5)) (denominator d (suc j)) (N ^ (4 * j + 5)) (denominator D (suc j))
  unfolding denominator
  fifth-of j k = rw (to-fifth n j, to-fifth N j) (power ((4 * j + 4) * (4 * j + 5)) _ _ _ _ (third_of j k))

  term : (j : ℕ) → Upto (n ^ (4 * j + 1)) (denominator d j) (N ^ (4 * j + 1)) (denominator D j)
  unfolding denominator
  term zero = record { upto = rw (pow-one, pow-one) h }
  term (suc j) = rw (to-first n j, to-first N j) (fifth-of j (term j))

  plus-up : (j : ℕ) → Upto (plus_terms n d j) (denominator d j) (plus_terms N D j) (denominator D j)
  unfolding plus_terms denominator
  plus-up zero = record { upto = h }
  plus-up (suc j) =
      add (stretch ((4 * j + 4) * (4 * j + 5)) _ _ _ _ (stretch ((4 * j + 2) * (4 * j + 3)) _ _ _ _ (plus-up j))) (fifth-of j (term j))

  less-of : (j : ℕ) → Upto (minus_terms n d j) (denominator d j) (minus_terms N D j) (denominator D j) → Upto (minus_terms3 n d j) (denominator3 d j) (minus_terms3 N D j) (denominator3 D j)
  less-of j k = add (stretch ((4 * j + 2) * (4 * j + 3)) _ _ _ _ k) (third_of j (term j))

  minus-up : (j : ℕ) → Upto (minus_terms n d j) (denominator d j) (minus_terms N D j) (denominator D j)
  unfolding minus_terms denominator
  minus-up zero = record { upto = none (denominator D 0) (denominator d 0) }
    where
      none : (a b : ℕ) → 0 * a ≤ 0 * b
      none a b = omega arith
  minus-up (suc j) = stretch ((4 * j + 4) * (4 * j + 5)) _ _ _ _ (less-of j (minus-up j))

  more-up : (j : ℕ) → Upto (plus_terms3 n d j) (denominator3 d j) (plus_terms3 N D j) (denominator3 D j)
  more-up j = stretch ((4 * j + 2) * (4 * j + 3)) _ _ _ _ (plus-up j)

  less-up : (j : ℕ) → Upto (minus_terms3 n d j) (denominator3 d j) (minus_terms3 N D j) (denominator3 D j)
  less-up j = less-of j (minus-up j)

factor-pos : (d c : ℕ) → 0 < d → 0 < c → 0 < d * d * c
factor-pos d c h k = mul-pos (mul-pos h h) k

some : (a b : ℕ) → 0 < (4 * a + suc b) * (4 * a + suc (suc b))
some a b = mul-pos (omega arith) (omega arith)

pub whole_pos : (d : ℕ) → 0 < d → (j : ℕ) → 0 < denominator d j
unfolding denominator
whole_pos d h zero = h
whole_pos d h (suc j) = mul-pos (mul-pos (whole_pos d h j) (factor-pos d _ h (some j 1))) (factor-pos d _ h (some j 3))

wide-pos : (d : ℕ) → 0 < d → (j : ℕ) → 0 < denominator3 d j
wide-pos d h j = mul-pos (whole_pos d h j) (factor-pos d _ h (some j 1))

-- a bound of a difference between l and h holds at what lies between
between : (p m w P M W x y : ℕ) → 0 < W → Upto p w P W → Upto M W m w → 32767 * P + x * W ≤ 32767 * M + y * W → 32767 * p + x * w ≤ 32767 * m + y * w
between p m w P M W x y Wp a b t = le_of_mul-le-mul_right (put a.upto b.upto (mul-le-mul_right w t)) Wp
  where
    put : p * W ≤ P * w → M * w ≤ m * W → (32767 * P + x * W) * w ≤ (32767 * M + y * W) * w → (32767 * p + x * w) * W ≤ (32767 * m + y * w) * W
    put a b t = omega arith

-- ---- the two bounds at one degree, which hold at each later one

record Held (e : ℤ) (n d j : ℕ) : Type 0 where
  over : 32767 * plus_terms n d j + minus_part e * denominator d j ≤ 32767 * minus_terms n d j + (plus_part e + 1) * denominator d j
  under : 32767 * minus_terms3 n d j + plus_part e * denominator3 d j ≤ 32767 * plus_terms3 n d j + (minus_part e + 1) * denominator3 d j

module _ (e : ℤ) (n d : ℕ) (dp : 0 < d) (near : n * n ≤ 49 * (d * d)) where
  falls : (j a b c : ℕ) → 49 ≤ a * b → c * (n * n) ≤ c * (d * d * (a * b))
  falls j a b c k = mul-le-mul_left c (le_trans near (put (d * d) (a * b) k))
    where
      put : (x y : ℕ) → 49 ≤ y → 49 * x ≤ x * y
      put x y k = omega (arith, mul-le-mul_left x k)

  big : (j b : ℕ) → 6 ≤ j → 49 ≤ (4 * j + suc (suc b)) * (4 * j + suc (suc (suc b)))
  big j b k = le_trans (lit≤ tt) (mul-le-mul (up26 j b k) (up26' j b k))
    where
      up26 : (j b : ℕ) → 6 ≤ j → 7 ≤ 4 * j + suc (suc b)
      up26 j b k = omega arith

      up26' : (j b : ℕ) → 6 ≤ j → 7 ≤ 4 * j + suc (suc (suc b))
      up26' j b k = omega arith

  next : (j : ℕ) → 6 ≤ j → Held e n d j → Held e n d (suc j)
  unfolding plus_terms minus_terms denominator
  next j k H = record {
    over =
        on (plus_terms n d j) (minus_terms n d j) (denominator d j) (growth3 d j) (growth5 d j) (n ^ (4 * j + 3)) (n ^ (4 * j + 5)) (minus_part e) (plus_part e + 1) H.over
        (subst (λ (m : ℕ). m ≤ n ^ (4 * j + 3) * growth5 d j) (sym (to-fifth n j)) (falls j (4 * j + 4) (4 * j + 5) (n ^ (4 * j + 3)) (big j 2 k)));
    under =
        off (plus_terms3 n d j) (minus_terms3 n d j) (denominator3 d j) (growth5 d j) (growth3 d (suc j)) (n ^ (4 * j + 5)) (n ^ (4 * suc j + 3)) (plus_part e) (minus_part e + 1) H.under
        (subst (λ (m : ℕ). m ≤ n ^ (4 * j + 5) * growth3 d (suc j)) (sym (to-third n (suc j) ∙ ap (λ (m : ℕ). m * (n * n)) (to-first n j))) (falls (suc j) (4 * suc j + 2) (4 * suc j + 3) (n ^ (4 * j + 5)) (big (suc j) 0 (omega arith))));
  }
    where
      on : (p m w f g t s x y : ℕ) → 32767 * p + x * w ≤ 32767 * m + y * w → s ≤ t * g
          → 32767 * (p * f * g + s) + x * (w * f * g) ≤ 32767 * ((m * f + t) * g) + y * (w * f * g)
      on p m w f g t s x y h k = omega (arith, mul-le-mul_right (f * g) h)

      off : (p m w g f t s x y : ℕ) → 32767 * m + x * w ≤ 32767 * p + y * w → s ≤ t * f
          → 32767 * (m * g * f + s) + x * (w * g * f) ≤ 32767 * ((p * g + t) * f) + y * (w * g * f)
      off p m w g f t s x y h k = omega (arith, mul-le-mul_right (g * f) h)

  onward : (i : ℕ) → Held e n d 6 → Held e n d (i + 6)
  onward zero H = H
  onward (suc i) H = subst (Held e n d) (sym (suc-add i 6)) (next (i + 6) (omega arith) (onward i H))

  held : (j : ℕ) → 6 ≤ j → Held e n d 6 → Held e n d j
  held j k H = subst (Held e n d) (back j k) (onward (j - 6) H)
    where
      back : (j : ℕ) → 6 ≤ j → j - 6 + 6 ≡ j
      back j k = omega arith

  -- of two sums that follow each other the later is the smaller, so the two bounds are four
  within : Held e n d 6 → NearSine e n d
  within H = record {
    larger = λ j k. let G : Held e n d j = held j k H in record {
      over = G.over;
      under = wider (plus_terms n d j) (minus_terms n d j) (denominator d j) (growth3 d j) (n ^ (4 * j + 3)) (plus_part e) (minus_part e + 1) (some-third j) G.under;
    };
    smaller = λ j k. let G : Held e n d j = held j k H in record {
      over = shorter (plus_terms n d j) (minus_terms n d j) (denominator d j) (growth3 d j) (n ^ (4 * j + 3)) (minus_part e) (plus_part e + 1) G.over;
      under = G.under;
    };
  }
    where
      wider : (p m w f t x y : ℕ) → 0 < f → 32767 * (m * f + t) + x * (w * f) ≤ 32767 * (p * f) + y * (w * f) → 32767 * m + x * w ≤ 32767 * p + y * w
      wider p m w f t x y fp h = le_of_mul-le-mul_right (drop-term h) fp
        where
          drop-term : 32767 * (m * f + t) + x * (w * f) ≤ 32767 * (p * f) + y * (w * f) → (32767 * m + x * w) * f ≤ (32767 * p + y * w) * f
          drop-term h = omega arith

      shorter : (p m w f t x y : ℕ) → 32767 * p + x * w ≤ 32767 * m + y * w → 32767 * (p * f) + x * (w * f) ≤ 32767 * (m * f + t) + y * (w * f)
      shorter p m w f t x y h = omega (arith, mul-le-mul_right f h)

      some-third : (j : ℕ) → 0 < growth3 d j
      some-third j = factor-pos d _ dp (some j 1)

-- the test is enough
pub enough : (k : ℕ) (e : ℤ) → k < 1024 → T (fits k e) → IsSine k e
unfolding fits fits-above fits_below
enough k e kl t p q c = within e (2 * k * p) (1024 * q) (positive q c.some) (close k p q kl c.most) (record {
  over = between _ _ _ _ _ _ (minus_part e) (plus_part e + 1) (whole_pos (1024 * pi_scale) (lit< tt) 6) (plus-up (2 * k * p) (1024 * q) (2 * k * pi_high) (1024 * pi_scale) (most k p q c.most) 6) (minus-up (2 * k * pi_low) (1024 * pi_scale) (2 * k * p) (1024 * q) (least k p q c.least) 6) (leb→le _ _ (both_left (fits-above k e) (fits_below k e) t));
  under = between _ _ _ _ _ _ (plus_part e) (minus_part e + 1) (wide-pos (1024 * pi_scale) (lit< tt) 6) (less-up (2 * k * p) (1024 * q) (2 * k * pi_high) (1024 * pi_scale) (most k p q c.most) 6) (more-up (2 * k * pi_low) (1024 * pi_scale) (2 * k * p) (1024 * q) (least k p q c.least) 6) (leb→le _ _ (both_right (fits-above k e) (fits_below k e) t));
})
  where
    most : (k p q : ℕ) → p * pi_scale ≤ pi_high * q → 2 * k * p * (1024 * pi_scale) ≤ 2 * k * pi_high * (1024 * q)
    most k p q h = omega (arith, mul-le-mul_left (2 * k * 1024) h)

    least : (k p q : ℕ) → pi_low * q ≤ p * pi_scale → 2 * k * pi_low * (1024 * q) ≤ 2 * k * p * (1024 * pi_scale)
    least k p q h = omega (arith, mul-le-mul_left (2 * k * 1024) h)

    positive : (q : ℕ) → 0 < q → 0 < 1024 * q
    positive q h = omega arith

    close : (k p q : ℕ) → k < 1024 → p * pi_scale ≤ pi_high * q → 2 * k * p * (2 * k * p) ≤ 49 * (1024 * q * (1024 * q))
    close k p q h m = square (2 * k * p) (1024 * q) (omega (arith, mul-le-mul_right p h))
      where
        square : (a b : ℕ) → a ≤ 7 * b → a * a ≤ 49 * (b * b)
        square a b h = omega (arith, mul-le-mul h h)
