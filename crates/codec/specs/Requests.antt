-- The one spelling of each request to the data component, and which requests have one.
use Rattle.std.specs.Prelude.{ℕ, List, ◌∷◌, ◌++◌, IfSome}
use Rattle.codec.specs.declared.request.Request.{Request}
use Rattle.codec.specs.declared.request.Request.TheVariants as is
use Rattle.codec.specs.Fields.{number, IsNumber, text, IsKey, optional, op_bytes, IsOp}

-- the kind, and the fields in order
unfoldable pub request_bytes : Request → List ℕ
request_bytes (is.Connect session end) = 1 ∷ number session ++ number end
request_bytes (is.Perform session n stable o) = 2 ∷ number session ++ (number n ++ (number stable ++ op_bytes o))
request_bytes (is.Get session read key) = 3 ∷ number session ++ (number read ++ text key)
request_bytes (is.Scan session read low high) = 4 ∷ number session ++ (number read ++ (text low ++ optional text high))
request_bytes (is.LowWater session low) = 5 ∷ number session ++ number low
request_bytes (is.Checkpoint session low) = 6 ∷ number session ++ number low
request_bytes (is.RedoEnd session) = 7 ∷ number session
request_bytes (is.StableEnd session stable) = 8 ∷ number session ++ number stable

-- every number in the request is below its bound
abbrev pub HasRequestNumbers : Request → Type 0
HasRequestNumbers (is.Connect session end) = IsNumber session × IsNumber end
HasRequestNumbers (is.Perform session n stable o) = IsNumber session × (IsNumber n × IsNumber stable)
HasRequestNumbers (is.Get session read key) = IsNumber session × IsNumber read
HasRequestNumbers (is.Scan session read low high) = IsNumber session × IsNumber read
HasRequestNumbers (is.LowWater session low) = IsNumber session × IsNumber low
HasRequestNumbers (is.Checkpoint session low) = IsNumber session × IsNumber low
HasRequestNumbers (is.RedoEnd session) = IsNumber session
HasRequestNumbers (is.StableEnd session stable) = IsNumber session × IsNumber stable

-- what has a spelling
abbrev pub IsRequest : Request → Type 0
IsRequest (is.Connect session end) = IsNumber session × IsNumber end
IsRequest (is.Perform session n stable o) = IsNumber session × (IsNumber n × (IsNumber stable × IsOp o))
IsRequest (is.Get session read key) = IsNumber session × (IsNumber read × IsKey key)
IsRequest (is.Scan session read low high) = IsNumber session × (IsNumber read × (IsKey low × IfSome high IsKey))
IsRequest (is.LowWater session low) = IsNumber session × IsNumber low
IsRequest (is.Checkpoint session low) = IsNumber session × IsNumber low
IsRequest (is.RedoEnd session) = IsNumber session
IsRequest (is.StableEnd session stable) = IsNumber session × IsNumber stable
