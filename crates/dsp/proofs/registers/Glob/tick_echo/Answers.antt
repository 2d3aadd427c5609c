-- Each side by its law; the write and the move take what the sides give.
use Rattle.dsp.specs.Echo.{echo_tick}
use Rattle.dsp.specs.Inside.{as_globals}
use Rattle.dsp.proofs.Echoes.{side_is}
use Rattle.dsp.proofs.registers.Glob.tick_echo.Goals as goal

pub write_echo-requires : goal.write_echo-requires
write_echo-requires c = c.requires.0

pub echo_moved-g-requires : goal.echo_moved-g-requires
echo_moved-g-requires c = c.requires.1

pub returns : goal.returns
unfolding echo_tick
returns c = let write = c in
    let fed-r = write in
    let fed-l = fed-r in
    let told = fed-l in
    let fir-r = told in
    let fir-l = fir-r in
    let moved-r = fir-l in
    let moved-l = moved-r in
    let read-r = moved-l in
    let read-l = read-r in
    let a = read-l.args in
    let g = as_globals a.self in
    let input = told.struct_told-1.given in
    let efb = told.struct_told-2-1.given.1.1.1.1.1.1.1.1.1.1.1.0.1 in
    let l = side_is g a.ram.now a.taps 0 a.left a.input.l _ _ _ _ read-l.read_echo_sample-read_l.type_inv fir-l.fir-fir_l.type_inv fed-l.fed_back-write_l.type_inv input.0.1 efb read-l.read_echo_sample-read_l.ensures moved-l.moved_on-hl.ensures fir-l.fir-fir_l.ensures fed-l.fed_back-write_l.ensures in
    let r = side_is g a.ram.now a.taps 2 a.right a.input.r _ _ _ _ read-r.read_echo_sample-read_r.type_inv fir-r.fir-fir_r.type_inv fed-r.fed_back-write_r.type_inv input.1.0.1 efb read-r.read_echo_sample-read_r.ensures moved-r.moved_on-hr.ensures fir-r.fir-fir_r.ensures fed-r.fed_back-write_r.ensures in
    rw (c.echo_moved-g.ensures, l.echo, r.echo, l.moved, r.moved, write.write_echo.ensures, l.fed, r.fed)
