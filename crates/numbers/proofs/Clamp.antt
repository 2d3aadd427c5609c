-- A clamped number has 16 bits, whatever was clamped; and the rules for what the functions of this crate give.
use Rattle.std.proofs.Common.{◌≡◌, ◌≤◌, Bool, true, false, ℤ, pos, negsuc, refl, arith, lit≤, ltb-false, if◌then◌else◌}
use lib.Signed.{mag, lt_z}
use Rattle.numbers.specs.Signed.{minus, clamp16_z}
use Rattle.numbers.proofs.Range.{Q, q_1, q_by, Law1, Within}
use Rattle.numbers.proofs.Cut.{q_cut_z, cuts}

clamp_by : (x : ℤ) (s t : Bool) → (lt_z x (minus 0x8000) ≡ s) → (lt_z (pos 0x7FFF) x ≡ t)
    → mag (if s then minus 0x8000 else (if t then pos 0x7FFF else x)) ≤ 0x7FFF
clamp_by x true t e d = lit≤ tt
clamp_by x false true e d = lit≤ tt
clamp_by (pos n) false false e d = omega (arith, ltb-false 0x7FFF n d)
clamp_by (negsuc n) false false e d = omega (arith, ltb-false 0x7FFF n e)

pub clamp_within : (x : ℤ) → Within 0x7FFF (clamp16_z x)
clamp_within x = record { le = clamp_by x (lt_z x (minus 0x8000)) (lt_z (pos 0x7FFF) x) refl refl }

pub clamp_law : Law1 clamp16_z clamp16_z (λ m. 0x7FFF) (λ m. true)
clamp_law x m p t = (refl, (clamp_within x).le)

abbrev pub q_clamp16 : {a : ℤ} → Q a → Q (clamp16_z a)
q_clamp16 p = q_1 clamp16_z clamp16_z _ (λ m. true) clamp_law p

-- for a caller: what clamp16, cut16 and cut4 ensure
pub ruleset calls = (q_by, q_clamp16, q_cut_z, cuts)
