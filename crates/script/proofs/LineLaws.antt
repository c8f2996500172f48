use Rattle.std.proofs.Common.{◌≡◌, ℕ, Bool, true, false, cond, List, ◌∷◌, ◌++◌, Some, None, codes, decimal, Option, refl, ap, ◌∙◌, arith}
use Rattle.std.proofs.lemmas.Slice.Eq.{bytes_eq-Decides}
use Rattle.std.specs.Option.{option_map}
use Rattle.std.specs.Str.{bytes_eq}
use Rattle.script.specs.declared.line.Protocol.{Protocol}
use Rattle.script.specs.declared.line.Protocol.TheVariants.{T0, T1}
use Rattle.t0.specs.declared.settings.Style.{Style}
use Rattle.t0.specs.declared.settings.Style.TheVariants.{Whole, Bytewise}
use Rattle.script.specs.declared.line.Settings.{Settings}
use Rattle.script.specs.Fields.{split, number}
use Rattle.script.specs.Hex.{command_of}
use Rattle.script.specs.Links.{protocol_of, style_of, settings_of}
use Rattle.script.specs.Lines.{Line, link, damage, send, reset, line_of, send_of, printed, protocol_text, style_text, Within}
use Rattle.script.proofs.Inversions.{from_then, split_inv, number_inv, command_inv}

from_mapped : {A B : Type 0} (f : A → B) (o : Option A) (y : B) → option_map f o ≡ Some y → (x : A) × (o ≡ Some x) × (f x ≡ y)
from_mapped f None y e = absurd (grind arith)
from_mapped f (Some x) y e = (x, refl, cc)

protocol_by : (text : List ℕ) (a b : Bool) (p : Protocol) → (a ≡ true → text ≡ codes "0") → (b ≡ true → text ≡ codes "1") → cond a (Some T0) (cond b (Some T1) None) ≡ Some p → protocol_text p ≡ text
protocol_by text true b p f g e = let q : p ≡ T0 = cc in rw (q, f refl)
protocol_by text false true p f g e = let q : p ≡ T1 = cc in rw (q, g refl)
protocol_by text false false p f g e = absurd (grind arith)

protocol_inv : (text : List ℕ) (p : Protocol) → protocol_of text ≡ Some p → protocol_text p ≡ text
protocol_inv text p e = protocol_by text (bytes_eq text (codes "0")) (bytes_eq text (codes "1")) p (bytes_eq-Decides text (codes "0")).0 (bytes_eq-Decides text (codes "1")).0 e

style_by : (text : List ℕ) (a b : Bool) (p : Style) → (a ≡ true → text ≡ codes "w") → (b ≡ true → text ≡ codes "b") → cond a (Some Whole) (cond b (Some Bytewise) None) ≡ Some p → style_text p ≡ text
style_by text true b p f g e = let q : p ≡ Whole = cc in rw (q, f refl)
style_by text false true p f g e = let q : p ≡ Bytewise = cc in rw (q, g refl)
style_by text false false p f g e = absurd (grind arith)

style_inv : (text : List ℕ) (p : Style) → style_of text ≡ Some p → style_text p ≡ text
style_inv text p e = style_by text (bytes_eq text (codes "w")) (bytes_eq text (codes "b")) p (bytes_eq-Decides text (codes "w")).0 (bytes_eq-Decides text (codes "b")).0 e

-- the fields of a link line after its word
abbrev pub settings_text : Settings → List ℕ
settings_text s =
    protocol_text s.protocol ++ (44 ∷ (decimal s.ifsc ++ (44 ∷ (decimal s.ifsd ++ (44 ∷ (decimal s.waits ++ (44 ∷ style_text s.style)))))))

settings_made : (text t b c d e f n g : List ℕ) (p : Protocol) (x y z : ℕ) (w : Style) → t ++ 44 ∷ b ≡ text → protocol_text p ≡ t → c ++ 44 ∷ d ≡ b → decimal x ≡ c → e ++ 44 ∷ f ≡ d → decimal y ≡ e → n ++ 44 ∷ g ≡ f → decimal z ≡ n → style_text w ≡ g → settings_text (record { protocol = p; ifsc = x; ifsd = y; waits = z; style = w }) ≡ text
settings_made text t b c d e f n g p x y z w q1 q2 q3 q4 q5 q6 q7 q8 q9 = rw (q2, q4, q6, q8, q9, q7, q5, q3, q1)

settings_inv : (text : List ℕ) (s : Settings) → settings_of text ≡ Some s → (settings_text s ≡ text) × Within (link s)
settings_inv text s e =
    from_then (split text) _ s e (λ t t= e1.
    from_then (protocol_of t.0) _ s e1 (λ p p= e2.
    from_then (split t.1) _ s e2 (λ c c= e3.
    from_then (number 1 254 c.0) _ s e3 (λ x x= e4.
    from_then (split c.1) _ s e4 (λ d d= e5.
    from_then (number 1 254 d.0) _ s e5 (λ y y= e6.
    from_then (split d.1) _ s e6 (λ n n= e7.
    from_then (number 0 15 n.0) _ s e7 (λ z z= e8.
    from_then (style_of n.1) _ s e8 (λ w w= e9.
    let f = number_inv 1 254 c.0 x (omega arith) x= in
    let g = number_inv 1 254 d.0 y (omega arith) y= in
    let h = number_inv 0 15 n.0 z (omega arith) z= in
    let q : s ≡ record { protocol = p; ifsc = x; ifsd = y; waits = z; style = w } = cc in
    rw q (
      settings_made text t.0 t.1 c.0 c.1 d.0 d.1 n.0 n.1 p x y z w (split_inv text t t=) (protocol_inv t.0 p p=) (split_inv t.1 c c=) f.0 (split_inv c.1 d d=) g.0 (split_inv d.1 n n=) h.0 (style_inv n.1 w w=),
      (f.1, f.2, g.1, g.2, h.2),
    ))))))))))

send_inv : (text : List ℕ) (l : Line) → send_of text ≡ Some l → (printed l ≡ codes "send," ++ text) × Within l
send_inv text l e =
    from_then (split text) _ l e (λ u u= e1.
    from_then (number 0 255 u.0) _ l e1 (λ p p= e2.
    from_then (command_of u.1) _ l e2 (λ b b= e3.
    let f = number_inv 0 255 u.0 p (omega arith) p= in
    let g = command_inv u.1 b b= in
    let q : l ≡ send p b = cc in
    rw q (ap (λ (x : List ℕ). codes "send," ++ x) (rw (f.0, g.0) (split_inv text u u=)), (f.2, g.1, g.2)))))

after_by : (word text : List ℕ) (a b c d : Bool) (l : Line) → (a ≡ true → word ≡ codes "link") → (b ≡ true → word ≡ codes "damage") → (c ≡ true → word ≡ codes "send") → (d ≡ true → word ≡ codes "reset") → cond a (option_map link (settings_of text)) (cond b (option_map damage (number 0 65535 text)) (cond c (send_of text) (cond d (option_map reset (number 0 255 text)) None))) ≡ Some l → (printed l ≡ word ++ 44 ∷ text) × Within l
after_by word text true b c d l h i j k e =
    let s = from_mapped link (settings_of text) l e in
    let f = settings_inv text s.0 s.1 in
    rw (h refl, ← s.2) (ap (λ (x : List ℕ). codes "link," ++ x) f.0, f.1)
after_by word text false true c d l h i j k e =
    let s = from_mapped damage (number 0 65535 text) l e in
    let f = number_inv 0 65535 text s.0 (omega arith) s.1 in
    rw (i refl, ← s.2) (ap (λ (x : List ℕ). codes "damage," ++ x) f.0, f.2)
after_by word text false false true d l h i j k e = rw (j refl) (send_inv text l e)
after_by word text false false false true l h i j k e =
    let s = from_mapped reset (number 0 255 text) l e in
    let f = number_inv 0 255 text s.0 (omega arith) s.1 in
    rw (k refl, ← s.2) (ap (λ (x : List ℕ). codes "reset," ++ x) f.0, f.2)
after_by word text false false false false l h i j k e = absurd (grind arith)

-- a line that was read prints as its text, and lies within its limits
pub line_inv : (text : List ℕ) (l : Line) → line_of text ≡ Some l → (printed l ≡ text) × Within l
unfolding line_of
line_inv text l e =
    from_then (split text) _ l e (λ p p= e1.
    let w = p.0 in
    let f = after_by w p.1 (bytes_eq w (codes "link")) (bytes_eq w (codes "damage")) (bytes_eq w (codes "send")) (bytes_eq w (codes "reset")) l (bytes_eq-Decides w (codes "link")).0 (bytes_eq-Decides w (codes "damage")).0 (bytes_eq-Decides w (codes "send")).0 (bytes_eq-Decides w (codes "reset")).0 e1 in
    (f.0 ∙ split_inv text p p=, f.1))
