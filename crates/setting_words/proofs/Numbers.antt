-- Numbers as texts: of segments, and lengths of time interleaving.
use Rattle.std.proofs.Common.{◌≡◌, ℕ, zero, suc, ◌≢◌, ◌≤◌, ◌<◌, List, length, None, Some, refl, sym, ap, ◌∙◌, subst, arith, lit≤}
use Rattle.std.specs.Prelude.{decimal, ◌==◌, if◌then◌else◌}
use Rattle.isdbt_base.specs.declared.kinds.Mode.{Mode}
use Rattle.isdbt_base.specs.declared.kinds.Mode.TheVariants.{M1, M2, M3}
use Rattle.isdbt_base.specs.declared.kinds.DepthCode.{DepthCode}
use Rattle.isdbt_base.specs.declared.kinds.DepthCode.TheVariants.{D0, D1, D2, D3}
use Rattle.isdbt_base.specs.Numbers.{time_depth}
use Rattle.setting_words.specs.SettingWords.{depth_text}
use Rattle.std.proofs.lemmas.Fmt.{decimal_injective, length-decimal-le}

-- what holds at 1 to 13 holds at each number of segments
pub each_count : (P : ℕ → Type 0) → P 1 → P 2 → P 3 → P 4 → P 5 → P 6 → P 7 → P 8 → P 9 → P 10 → P 11 → P 12 → P 13 → (n : ℕ) → 1 ≤ n → n ≤ 13 → P n
each_count P p1 p2 p3 p4 p5 p6 p7 p8 p9 p10 p11 p12 p13 zero low high = absurd (omega arith)
each_count P p1 p2 p3 p4 p5 p6 p7 p8 p9 p10 p11 p12 p13 (suc zero) low high = p1
each_count P p1 p2 p3 p4 p5 p6 p7 p8 p9 p10 p11 p12 p13 (suc (suc zero)) low high = p2
each_count P p1 p2 p3 p4 p5 p6 p7 p8 p9 p10 p11 p12 p13 (suc (suc (suc zero))) low high = p3
each_count P p1 p2 p3 p4 p5 p6 p7 p8 p9 p10 p11 p12 p13 (suc (suc (suc (suc zero)))) low high = p4
each_count P p1 p2 p3 p4 p5 p6 p7 p8 p9 p10 p11 p12 p13 (suc (suc (suc (suc (suc zero))))) low high = p5
each_count P p1 p2 p3 p4 p5 p6 p7 p8 p9 p10 p11 p12 p13 (suc (suc (suc (suc (suc (suc zero)))))) low high = p6
each_count P p1 p2 p3 p4 p5 p6 p7 p8 p9 p10 p11 p12 p13 (suc (suc (suc (suc (suc (suc (suc zero))))))) low high = p7
each_count P p1 p2 p3 p4 p5 p6 p7 p8 p9 p10 p11 p12 p13 (suc (suc (suc (suc (suc (suc (suc (suc zero)))))))) low high = p8
each_count P p1 p2 p3 p4 p5 p6 p7 p8 p9 p10 p11 p12 p13 (suc (suc (suc (suc (suc (suc (suc (suc (suc zero))))))))) low high = p9
each_count P p1 p2 p3 p4 p5 p6 p7 p8 p9 p10 p11 p12 p13 (suc (suc (suc (suc (suc (suc (suc (suc (suc (suc zero)))))))))) low high = p10
each_count P p1 p2 p3 p4 p5 p6 p7 p8 p9 p10 p11 p12 p13 (suc (suc (suc (suc (suc (suc (suc (suc (suc (suc (suc zero))))))))))) low high = p11
each_count P p1 p2 p3 p4 p5 p6 p7 p8 p9 p10 p11 p12 p13 (suc (suc (suc (suc (suc (suc (suc (suc (suc (suc (suc (suc zero)))))))))))) low high = p12
each_count P p1 p2 p3 p4 p5 p6 p7 p8 p9 p10 p11 p12 p13 (suc (suc (suc (suc (suc (suc (suc (suc (suc (suc (suc (suc (suc zero))))))))))))) low high = p13
each_count P p1 p2 p3 p4 p5 p6 p7 p8 p9 p10 p11 p12 p13 (suc (suc (suc (suc (suc (suc (suc (suc (suc (suc (suc (suc (suc (suc n)))))))))))))) low high = absurd (omega arith)

-- a text is of one number at most
pub same_count : (text : List ℕ) (k n : ℕ) → k ≤ 13 → n ≤ 13 → text ≡ decimal k → text ≡ decimal n → Some k ≡ Some n
same_count text k n few few' e f = ap Some (decimal_injective k n (omega arith) (omega arith) (sym e ∙ f))

-- a number below 100 has one digit or two
pub two_digits : (text : List ℕ) (n : ℕ) → text ≡ decimal n → n < 100 → length text ≤ 2
two_digits text n e few = rw e (length-decimal-le 2 n (omega arith) (omega (arith, few)) (omega (arith, few)))

-- ---- time interleaving lengths

-- the code of a length
abbrev code_of : Mode → ℕ → DepthCode
code_of M1 n = if n == 0 then D0 else if n == 4 then D1 else if n == 8 then D2 else D3
code_of M2 n = if n == 0 then D0 else if n == 2 then D1 else if n == 4 then D2 else D3
code_of M3 n = if n == 0 then D0 else if n == 1 then D1 else if n == 2 then D2 else D3

code_of-time_depth : (mode : Mode) (d : DepthCode) → code_of mode (time_depth mode d) ≡ d
code_of-time_depth M1 D0 = refl
code_of-time_depth M1 D1 = refl
code_of-time_depth M1 D2 = refl
code_of-time_depth M1 D3 = refl
code_of-time_depth M2 D0 = refl
code_of-time_depth M2 D1 = refl
code_of-time_depth M2 D2 = refl
code_of-time_depth M2 D3 = refl
code_of-time_depth M3 D0 = refl
code_of-time_depth M3 D1 = refl
code_of-time_depth M3 D2 = refl
code_of-time_depth M3 D3 = refl

small_depth : (mode : Mode) (d : DepthCode) → time_depth mode d ≤ 16
small_depth M1 D0 = lit≤ tt
small_depth M1 D1 = lit≤ tt
small_depth M1 D2 = lit≤ tt
small_depth M1 D3 = lit≤ tt
small_depth M2 D0 = lit≤ tt
small_depth M2 D1 = lit≤ tt
small_depth M2 D2 = lit≤ tt
small_depth M2 D3 = lit≤ tt
small_depth M3 D0 = lit≤ tt
small_depth M3 D1 = lit≤ tt
small_depth M3 D2 = lit≤ tt
small_depth M3 D3 = lit≤ tt

pub depth_text-injective : (mode : Mode) (d e : DepthCode) → depth_text mode d ≡ depth_text mode e → d ≡ e
depth_text-injective mode d e same =
    let low = small_depth mode d in
    let high = small_depth mode e in
    let n : time_depth mode d ≡ time_depth mode e = decimal_injective (time_depth mode d) (time_depth mode e) (omega (arith, low)) (omega (arith, high)) same in
    sym (code_of-time_depth mode d) ∙ ap (code_of mode) n ∙ code_of-time_depth mode e

pub spells_depth : (mode m : Mode) (k : DepthCode) (text : List ℕ) → mode ≡ m → text ≡ depth_text m k → text ≡ depth_text mode k
spells_depth mode m k text is e = subst (λ (x : Mode). text ≡ depth_text x k) (sym is) e

pub same_depth : (mode m : Mode) (k d : DepthCode) (text : List ℕ) → mode ≡ m → text ≡ depth_text m k → text ≡ depth_text mode d → Some k ≡ Some d
same_depth mode m k d text is e f = ap Some (depth_text-injective mode k d (sym (spells_depth mode m k text is e) ∙ f))

pub no_depth : (mode m : Mode) (text : List ℕ) → mode ≡ m → text ≢ depth_text m D0 → text ≢ depth_text m D1 → text ≢ depth_text m D2 → text ≢ depth_text m D3
    → (d : DepthCode) → text ≡ depth_text mode d → None ≡ Some d
no_depth mode m text is n0 n1 n2 n3 d e = absurd (go d (subst (λ (x : Mode). text ≡ depth_text x d) is e))
  where
    go : (d : DepthCode) → text ≡ depth_text m d → ⊥
    go D0 f = n0 f
    go D1 f = n1 f
    go D2 f = n2 f
    go D3 f = n3 f
