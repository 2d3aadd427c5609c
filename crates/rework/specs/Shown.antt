-- A tick's row of the sheet is what the record shows after it: "as things stand after it: per voice the scaled output, the ENVX register,
-- the ENDX bit; then echo output left, right" (document 01, "Log, sheet, program").
use Rattle.std.specs.Prelude.{List, [], ◌++◌, ◌≡◌, ℕ, zero, suc, ◌+◌, ◌*◌, get_or}
use Rattle.numbers.specs.Bits.{bit}
use Rattle.dsp.specs.Machine.{no_voice, apart, together}
use Rattle.dsp.specs.Mix.{output_of}
use Rattle.dsp.specs.Sheet.{lane_bytes, pair_bytes}
use Rattle.dsp.specs.Tick.{everything, tick_of}
use Rattle.dsp.specs.declared.registers.Dsp.{Dsp}
use Rattle.dsp.specs.declared.voice.Voice.{Voice}
use Rattle.rework.specs.Demands.{IsRecord}

-- voice j, of its record and the registers
abbrev pub lane_of : List Voice → List ℕ → ℕ → List ℕ
lane_of voices registers j = lane_bytes (output_of (get_or voices j no_voice)) (get_or registers (j * 16 + 8) 0) (bit (get_or registers 0x7C 0) j)

-- voices 0 to n - 1
unfoldable pub lanes_of : List Voice → List ℕ → ℕ → List ℕ
lanes_of voices registers zero = []
lanes_of voices registers (suc n) = lanes_of voices registers n ++ lane_of voices registers n

abbrev pub row_of : Dsp → List ℕ
row_of d = lanes_of d.voices d.registers 8 ++ pair_bytes d.echo_out_l d.echo_out_r

abbrev pub RowShows : Type 0
RowShows = (d : Dsp) (ram old : List ℕ) → IsRecord d → (tick_of everything old (apart d) ram).row ≡ row_of (together (tick_of everything old (apart d) ram).parts)
