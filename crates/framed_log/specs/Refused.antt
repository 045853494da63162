-- What is told of a call whose device failed.
use Rattle.record_key.specs.declared.refusal.Refusal.{Refusal}
use Rattle.record_key.specs.declared.refusal.Refusal.TheVariants.{NoMemory, Device}
use Rattle.stable.specs.Usage.{Usage, failed}
use Rattle.stable.specs.declared.error.DeviceError.{DeviceError}
use Rattle.stable.specs.declared.error.DeviceError.TheVariants as device

-- the refusal that a device's error is answered with
abbrev pub refusal_from : DeviceError → Refusal
refusal_from device.NoMemory = NoMemory
refusal_from device.Device = Device

-- the device after a call that was refused so: one that is refused for anything but a failure isn't counted
abbrev pub refused_use : Usage → Refusal → Usage
refused_use u Device = failed u
refused_use u _ = u
