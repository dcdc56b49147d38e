-- Values between the pieces of a format, which is written in one call.
use Rattle.std.proofs.Common.{◌≡◌, ℕ, List, ◌++◌, append_assoc}

pub two_values : (start a x b y c : List ℕ) {out : List ℕ} → out ≡ start ++ (a ++ (x ++ (b ++ (y ++ c)))) → out ≡ start ++ (a ++ x ++ b ++ y ++ c)
two_values start a x b y c {out} h = rw h (simp append_assoc)

pub three_values : (start a x b y c z d : List ℕ) {out : List ℕ} → out ≡ start ++ (a ++ (x ++ (b ++ (y ++ (c ++ (z ++ d)))))) → out ≡ start ++ (a ++ x ++ b ++ y ++ c ++ z ++ d)
three_values start a x b y c z d {out} h = rw h (simp append_assoc)

pub four_values : (start a x b y c z d w e : List ℕ) {out : List ℕ} → out ≡ start ++ (a ++ (x ++ (b ++ (y ++ (c ++ (z ++ (d ++ (w ++ e)))))))) → out ≡ start ++ (a ++ x ++ b ++ y ++ c ++ z ++ d ++ w ++ e)
four_values start a x b y c z d w e {out} h = rw h (simp append_assoc)
